-- `read_calendar` meets its contract: each return is the choice that its tests make.
use Rattle.std.proofs.Common.{Result, Err, ap, arith, refl, sym, length, true, List, ℕ, ◌+◌, ◌*◌, ◌≤◌, ◌∙◌, ◌≡◌}
use Rattle.prelude.proofs.Laws.Choice.{lt_yes, lt_no, if_by_true, if_by_false}
use Rattle.prelude.proofs.Laws.Results.{err_passed}
use Rattle.prelude.proofs.Laws.Verdicts.{and_then_fine, and_then-refused}
use Rattle.prelude.specs.declared.refusals.Refusal.{Refusal}
use Rattle.prelude.specs.Verdicts.{and_then}
use Rattle.calendar.specs.Reader.{most_bytes, calendar_identified, count_of, table_from, days_from, calendar_answered, calendar_of}
use Rattle.calendar.proofs.Laws.Reader.{head_long}
use Rattle.calendar.proofs.reading.read_calendar.Goals as goal

pub returns-then-file-gt2228224 : goal.returns-then-file-gt2228224
unfolding calendar_of
returns-then-file-gt2228224 c = lt_yes _ _ _ (omega arith) refl

pub returns-then-not-is_calendar : goal.returns-then-not-is_calendar
unfolding calendar_of
returns-then-not-is_calendar c = lt_no _ _ _ (omega arith) (if_by_false _ _ _ c.is_calendar.ensures c.if-not-is_calendar.true refl)

pub count_of-count-requires : goal.count_of-count-requires
count_of-count-requires c = head_long _ (sym c.is_calendar.ensures ∙ c.if-not-is_calendar.false)

pub returns-then-file-count : goal.returns-then-file-count
unfolding calendar_of
returns-then-file-count c = lt_no _ _ _ (omega arith) (if_by_true _ _ _ c.is_calendar.ensures c.if-not-is_calendar.false (lt_yes _ _ _ (omega arith) (ap Err c.at.ensures)))

-- Where head and table are there, table and days decide.
judged : (f : List ℕ) (n : ℕ) {r : Result ℕ Refusal} → length f ≤ most_bytes → calendar_identified f ≡ true → n ≡ count_of f → 64 + 12 * n ≤ length f → r ≡ calendar_answered n (and_then (table_from n f 64 0) (days_from n f 64)) → r ≡ calendar_of f
unfolding calendar_of
judged f n s i e t h = lt_no _ _ _ s (if_by_true _ _ _ refl i (lt_no _ _ _ (omega arith) (rw (← e) h)))

pub returns-in_err-judge_table : goal.returns-in_err-judge_table
unfolding calendar_answered
returns-in_err-judge_table c =
    err_passed c.from_residual.ensures.1
    ∙ judged c.args.file.now _ (omega arith) (sym c.is_calendar.ensures ∙ c.if-not-is_calendar.false) c.count_of-count.ensures.0 (omega arith)
    (sym (ap (calendar_answered _) (and_then-refused _ c.judge_table.ensures c.in_err-judge_table.was)))

pub returns-in_err-judge_days : goal.returns-in_err-judge_days
unfolding calendar_answered
returns-in_err-judge_days c =
    err_passed c.from_residual-in_err-judge_days.ensures.1
    ∙ judged c.args.file.now _ (omega arith) (sym c.is_calendar.ensures ∙ c.if-not-is_calendar.false) c.count_of-count.ensures.0 (omega arith)
    (sym (ap (calendar_answered _) (and_then_fine _ c.judge_table.ensures c.in_ok-judge_table.was ∙ sym c.judge_days.ensures ∙ c.in_err-judge_days.was)))

pub returns : goal.returns
unfolding calendar_answered
returns c =
    judged c.args.file.now _ (omega arith) (sym c.is_calendar.ensures ∙ c.if-not-is_calendar.false) c.count_of-count.ensures.0 (omega arith)
    (sym (ap (calendar_answered _) (and_then_fine _ c.judge_table.ensures c.in_ok-judge_table.was ∙ sym c.judge_days.ensures ∙ c.in_ok-judge_days.was)))
