-- `appointment_count` meets its contract: the file's own refusal, then 11, or the day's list is counted, if it has one.
use Rattle.std.proofs.Common.{Ok, List, ap, arith, length, refl, sym, ℕ, ◌∙◌}
use Rattle.prelude.proofs.Laws.Choice.{lt_yes, lt_no}
use Rattle.prelude.proofs.Laws.Results.{err_passed}
use Rattle.calendar.specs.Shown.{count_from, count_answer}
use Rattle.calendar.proofs.Laws.Reader.{calendar_facts}
use Rattle.calendar.proofs.shown.appointment_count.Goals as goal

pub returns-in_err-n : goal.returns-in_err-n
unfolding count_answer count_from
returns-in_err-n c = err_passed c.from_residual.ensures.1 ∙ sym (ap (count_from _ _) (sym c.read_calendar.ensures ∙ c.in_err-n.was))

pub returns-then-day-gt-LAST_DAY : goal.returns-then-day-gt-LAST_DAY
unfolding count_answer count_from
returns-then-day-gt-LAST_DAY c = lt_yes _ _ _ (omega arith) refl ∙ sym (ap (count_from _ _) (sym c.read_calendar.ensures ∙ c.in_ok-n.was))

pub span_on-requires : goal.span_on-requires
span_on-requires c = calendar_facts _ (sym c.read_calendar.ensures ∙ c.in_ok-n.was)

pub returns-in-Some : goal.returns-in-Some
unfolding count_answer count_from
returns-in-Some c =
    lt_no _ _ _ (omega arith) (ap Ok (c.count_list.ensures ∙ ap (λ (l : List ℕ). length l) (sym c.in-Some.ensures.places)))
    ∙ sym (ap (count_from _ _) (sym c.read_calendar.ensures ∙ c.in_ok-n.was))

pub returns-in-None : goal.returns-in-None
unfolding count_answer count_from
returns-in-None c =
    lt_no _ _ _ (omega arith) (ap Ok (ap (λ (l : List ℕ). length l) (sym c.in-None.ensures)))
    ∙ sym (ap (count_from _ _) (sym c.read_calendar.ensures ∙ c.in_ok-n.was))
