-- `number_of` meets its contract. The loop keeps: v is the value of the bytes that were read, and it is below 65,536.
use Rattle.std.proofs.Common.{ap, arith, drop, sym, ◌*◌, ◌+◌, ◌∙◌, ◌≡◌}
use Rattle.digits.specs.Digits.{value_from, value, capped}
use Rattle.digits.proofs.Laws.Numbers.{value_is, value_next, value_end, capped_below, capped_larger}
use Rattle.digits.proofs.words.number_of.Goals as goal

pub loop-b-init : goal.loop-b-init
loop-b-init c = (omega arith, value_is _)

pub returns-then-v-gt65535 : goal.returns-then-v-gt65535
returns-then-v-gt65535 c =
    let next : value c.args.w.now ≡ value_from (10 * c.loop-b.v + c.digit_of.result) (drop (c.loop-b.b-index + 1) c.args.w.now) =
    c.loop-b.invariant.1 ∙ rw c.digit_of.ensures (value_next _ c.loop-b.v c.loop-b.b-index (omega arith)) in
    sym (ap capped next ∙ capped_larger _ (omega arith))

pub loop-b-preserved : goal.loop-b-preserved
loop-b-preserved c = (omega arith, c.loop-b.invariant.1 ∙ rw c.digit_of.ensures (value_next _ c.loop-b.v c.loop-b.b-index (omega arith)))

pub returns : goal.returns
returns c = sym (ap capped (c.loop-b.invariant.1 ∙ value_end _ c.loop-b.v c.loop-b.b-index (omega arith)) ∙ capped_below c.loop-b.invariant.0)
