-- `zero_from` meets its contract. The loop keeps: the first zero from the start on is the first from i on.
use Rattle.std.proofs.Common.{arith, suc, sym, ◌+◌, ◌-◌, ◌<◌, ◌∙◌, ◌≡◌}
use Rattle.calendar.proofs.Laws.Lists.{zero-later, before_last, zero_met}
use Rattle.calendar.proofs.lists.zero_from.Goals as goal

pub loop-i-preserved : goal.loop-i-preserved
loop-i-preserved c =
    let h = (let below : c.loop-i.i < c.args.end = before_last c.args.file.now _ _ c.loop-i.invariant.0 c.requires.ends c.loop-i-test.true in below) in
    let k : c.args.end - c.loop-i.i ≡ suc (c.args.end - (c.loop-i.i + 1)) = omega arith in
    (omega arith, c.loop-i.invariant.1 ∙ rw k (zero-later _ c.args.file.now c.loop-i.i c.loop-i-test.true))

pub returns : goal.returns
returns c = sym (c.loop-i.invariant.1 ∙ zero_met _ _ _ c.loop-i-test.false)
