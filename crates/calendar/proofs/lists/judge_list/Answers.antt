-- `judge_list` meets its contract. The loop keeps: the list is judged as what is left of it from the place on.
use Rattle.std.proofs.Common.{Err, ap, arith, sym, ◌+◌, ◌∙◌, ◌≡◌}
use Rattle.calendar.specs.Lists.{minute_at, next_at, verdict_in}
use Rattle.calendar.proofs.Laws.Lists.{appointment-ok-facts, walk_end, walk_more, walk-stop, verdict_end, verdict_more, verdict_stop}
use Rattle.calendar.proofs.lists.judge_list.Goals as goal

pub word_in-low-requires : goal.word_in-low-requires
word_in-low-requires c = let a = appointment-ok-facts _ _ _ _ (sym c.appointment_ok.ensures ∙ c.if-not-appointment_ok.false) in omega arith

pub loop-at-smaller : goal.loop-at-smaller
loop-at-smaller c = let a = appointment-ok-facts _ _ _ _ (sym c.appointment_ok.ensures ∙ c.if-not-appointment_ok.false) in omega arith

pub loop-at-preserved : goal.loop-at-preserved
loop-at-preserved c =
    let m : c.word_in-low.result ≡ minute_at c.args.file.now c.loop-at.at = c.word_in-low.ensures in
    let n : c.loop-at.at + c.size_at-at.result ≡ next_at c.args.file.now c.loop-at.at = omega arith in
    rw (m, n) (c.loop-at.invariant ∙ ap verdict_in (walk_more _ _ _ _ (omega arith) (sym c.appointment_ok.ensures ∙ c.if-not-appointment_ok.false)) ∙ verdict_more _ _)

pub returns-then-not-appointment_ok : goal.returns-then-not-appointment_ok
returns-then-not-appointment_ok c = ap Err c.at.ensures ∙ sym (c.loop-at.invariant ∙ ap verdict_in (walk-stop _ _ _ _ (omega arith) (sym c.appointment_ok.ensures ∙ c.if-not-appointment_ok.true)) ∙ verdict_stop _)

pub returns : goal.returns
returns c = sym (c.loop-at.invariant ∙ ap verdict_in (walk_end _ _ _ _ (omega arith)) ∙ verdict_end)
