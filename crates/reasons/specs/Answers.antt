-- What the question for a reason gives: "Refusals as for a page, 11 before 10."
-- Assumes nothing.
use Rattle.std.specs.Prelude.{Result, Ok, Err, ℕ, List}
use Rattle.prelude.specs.Refusals.{no_such_number, refusal}
use Rattle.days.specs.declared.types.CalendarDay.{CalendarDay}
use Rattle.falls.specs.declared.types.ShortMonth.{ShortMonth}
use Rattle.pages.specs.Answers.{validated}
use Rattle.pages.specs.Pages.{numbered, nth}
use Rattle.reasons.specs.Reasons.{reason_of}
use Rattle.prelude.specs.declared.refusals.Refusal.{Refusal}
use Rattle.pages.specs.declared.types.Ready.{Ready}
use Rattle.reasons.specs.declared.types.Reason.{Reason}

-- "For a record, a day and a short-month choice, give the reason"
unfoldable pub why_in : List ℕ → ShortMonth → ℕ → Result Ready Refusal → Result Reason Refusal
why_in f c k (Ok a) =
    nth (numbered f) k (Err (refusal no_such_number)) (λ x. Ok (reason_of c a.facts x.entry.«record»))
why_in f c k (Err e) = Err e

-- the same of a file and a day
abbrev pub record_why : List ℕ → ShortMonth → CalendarDay → ℕ → Result Reason Refusal
record_why f c n k = why_in f c k (validated f n)
