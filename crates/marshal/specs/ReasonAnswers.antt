-- Why a record is on a day or not, across C: number 0 and the reason, or the refusal with reason 0.
-- Assumes nothing.
use Rattle.std.specs.Prelude.{Result, Ok, Err, ℕ, ◌≡◌, List}
use Rattle.days.specs.Facts.{facts_of}
use Rattle.days.specs.declared.types.CalendarDay.{CalendarDay}
use Rattle.falls.specs.declared.types.ShortMonth.{ShortMonth}
use Rattle.reasons.specs.Holds.{Explained}
use Rattle.reasons.specs.declared.types.Reason.{Reason}
use Rattle.marshal.specs.declared.reason_answers.ReasonOut.{ReasonOut}
use Rattle.prelude.specs.declared.refusals.Refusal.{Refusal}

-- APPTBOOK_OWN_DAY, APPTBOOK_MOVED, and so on in the header
unfoldable pub reason_number : Reason → ℕ
reason_number Reason.OwnDay = 1
reason_number Reason.Moved = 2
reason_number Reason.IsToDo = 3
reason_number Reason.BeforeStart = 4
reason_number Reason.AfterEnd = 5
reason_number Reason.WrongMonth = 6
reason_number Reason.MonthTooShort = 7
reason_number Reason.WrongDay = 8
reason_number Reason.WrongWeekday = 9
reason_number Reason.WrongWeek = 10

unfoldable pub reason_out : Result Reason Refusal → ReasonOut
reason_out (Ok q) = record { number = 0; place = 0; reason = reason_number q }
reason_out (Err e) = record { number = e.number; place = e.place; reason = 0 }

-- what the number of a reason says
abbrev pub ExplainedOut : List ℕ → ShortMonth → CalendarDay → ℕ → ReasonOut → Type 0
ExplainedOut f c n k r = (q : Reason) → r.reason ≡ reason_number q → Explained f c (facts_of n.0) k q
