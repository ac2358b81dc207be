-- Why a record is on a day, or is not: document 02, R-8.
-- Assumes nothing.
use Rattle.std.specs.Prelude.{ℕ, Bool, true, false}
use Rattle.std.proofs.Math.Option.{Option, none, some}
use Rattle.prelude.specs.Choice.{if_eq, if_b}
use Rattle.days.specs.Dates.{before}
use Rattle.days.specs.declared.types.Date.{Date}
use Rattle.days.specs.declared.types.DayFacts.{DayFacts}
use Rattle.records.specs.declared.types.Record.{Record}
use Rattle.falls.specs.Moved.{day_missing, falling}
use Rattle.falls.specs.declared.types.Falling.{Falling}
use Rattle.falls.specs.declared.types.ShortMonth.{ShortMonth}
use Rattle.reasons.specs.declared.types.Reason.{Reason}

-- What a record says of its days, where its kind says it.

-- of "before start": its first day. "A dated record on another day is before start or after end": its date is its first day and its last
unfoldable pub first_date : Record → Option Date
first_date (Record.Dated d) = some d.date
first_date (Record.Weekly w) = some w.repeat.first
first_date (Record.MonthlyByDate m) = some m.repeat.first
first_date (Record.MonthlyByPosition m) = some m.repeat.first
first_date (Record.Yearly y) = some y.repeat.first
first_date (Record.ToDo t) = none

-- of "after end": its last day
unfoldable pub last_date : Record → Option Date
last_date (Record.Dated d) = some d.date
last_date (Record.Weekly w) = some w.repeat.last
last_date (Record.MonthlyByDate m) = some m.repeat.last
last_date (Record.MonthlyByPosition m) = some m.repeat.last
last_date (Record.Yearly y) = some y.repeat.last
last_date (Record.ToDo t) = none

-- of "wrong month"
unfoldable pub own_month : Record → Option ℕ
own_month (Record.Dated d) = none
own_month (Record.Weekly w) = none
own_month (Record.MonthlyByDate m) = none
own_month (Record.MonthlyByPosition m) = none
own_month (Record.Yearly y) = some y.month
own_month (Record.ToDo t) = none

-- of "wrong day of month"
unfoldable pub own_day : Record → Option ℕ
own_day (Record.Dated d) = none
own_day (Record.Weekly w) = none
own_day (Record.MonthlyByDate m) = some m.day
own_day (Record.MonthlyByPosition m) = none
own_day (Record.Yearly y) = some y.day
own_day (Record.ToDo t) = none

-- of "wrong weekday"
unfoldable pub own_weekday : Record → Option ℕ
own_weekday (Record.Dated d) = none
own_weekday (Record.Weekly w) = some w.weekday
own_weekday (Record.MonthlyByDate m) = none
own_weekday (Record.MonthlyByPosition m) = some m.weekday
own_weekday (Record.Yearly y) = none
own_weekday (Record.ToDo t) = none

-- of "wrong week": the week of the month
unfoldable pub own_week : Record → Option ℕ
own_week (Record.Dated d) = none
own_week (Record.Weekly w) = none
own_week (Record.MonthlyByDate m) = none
own_week (Record.MonthlyByPosition m) = some m.week
own_week (Record.Yearly y) = none
own_week (Record.ToDo t) = none

-- there is a date, and d is before it
unfoldable pub is_earlier : Date → Option Date → Bool
is_earlier d none = false
is_earlier d (some e) = before d e

-- there is a date, and d is after it
unfoldable pub is_later : Date → Option Date → Bool
is_later d none = false
is_later d (some e) = before e d

-- there is a number, and n is another
unfoldable pub is_other : ℕ → Option ℕ → Bool
is_other n none = false
is_other n (some m) = if_eq n m false true

-- "is a to-do"
unfoldable pub is_to_do : Record → Bool
is_to_do (Record.Dated d) = false
is_to_do (Record.Weekly w) = false
is_to_do (Record.MonthlyByDate m) = false
is_to_do (Record.MonthlyByPosition m) = false
is_to_do (Record.Yearly y) = false
is_to_do (Record.ToDo t) = true

-- ""Month too short" is given only under skip, on a month's last day, when the wanted day is missing from that month."
unfoldable pub is_too_short : ShortMonth → DayFacts → Record → Bool
is_too_short ShortMonth.Skip f r = if_eq f.date.day f.length (day_missing f r) false
is_too_short ShortMonth.Last f r = false

-- "the first that holds of: is a to-do, before start, after end, wrong month, month too short, wrong day of month, wrong weekday, wrong week";
-- where none of the first seven does, the eighth does (`reason-first`)
unfoldable pub absent_for : ShortMonth → DayFacts → Record → Reason
absent_for c f r =
    if_b (is_to_do r) Reason.IsToDo
    (if_b (is_earlier f.date (first_date r)) Reason.BeforeStart
    (if_b (is_later f.date (last_date r)) Reason.AfterEnd
    (if_b (is_other f.date.month (own_month r)) Reason.WrongMonth
    (if_b (is_too_short c f r) Reason.MonthTooShort
    (if_b (is_other f.date.day (own_day r)) Reason.WrongDay
    (if_b (is_other f.weekday (own_weekday r)) Reason.WrongWeekday Reason.WrongWeek))))))

-- the reason of what falls on the day, or else another
unfoldable pub or_else : Falling → Reason → Reason
or_else Falling.No absent = absent
or_else Falling.Own absent = Reason.OwnDay
or_else Falling.Moved absent = Reason.Moved

-- "give the reason: on its own day, moved, or the first that holds of"
unfoldable pub reason_of : ShortMonth → DayFacts → Record → Reason
reason_of c f r = or_else (falling c f r) (absent_for c f r)

-- "the reason says "shown""
unfoldable pub says_shown : Reason → Bool
says_shown Reason.OwnDay = true
says_shown Reason.Moved = true
says_shown Reason.IsToDo = false
says_shown Reason.BeforeStart = false
says_shown Reason.AfterEnd = false
says_shown Reason.WrongMonth = false
says_shown Reason.MonthTooShort = false
says_shown Reason.WrongDay = false
says_shown Reason.WrongWeekday = false
says_shown Reason.WrongWeek = false
