-- The reasons of a record that is not on a day, by kind: what its kind can fail, as the code asks it (`absent-type`).
-- Assumes nothing.
use Rattle.std.specs.Prelude.{ℕ, Bool, true, false}
use Rattle.prelude.specs.Choice.{if_lt, if_eq, if_b}
use Rattle.days.specs.Dates.{before}
use Rattle.days.specs.declared.types.Date.{Date}
use Rattle.days.specs.declared.types.DayFacts.{DayFacts}
use Rattle.falls.specs.declared.types.ShortMonth.{ShortMonth}
use Rattle.reasons.specs.declared.types.Reason.{Reason}

-- before the first date, after the last, or else the other reason
unfoldable pub outside_or : DayFacts → Date → Date → Reason → Reason
outside_or f first last other =
    if_b (before f.date first) Reason.BeforeStart (if_b (before last f.date) Reason.AfterEnd other)

-- weekly and by position: the weekday, or else the week
unfoldable pub weekday_reason : DayFacts → ℕ → Reason
weekday_reason f weekday = if_eq f.weekday weekday Reason.WrongWeek Reason.WrongWeekday

-- the day is the month's last, and the wanted one is past it
unfoldable pub ends_before : DayFacts → ℕ → Bool
ends_before f day = if_eq f.date.day f.length (if_lt f.length day true false) false

-- "only under skip"
unfoldable pub too_short : ShortMonth → DayFacts → ℕ → Bool
too_short ShortMonth.Skip f day = ends_before f day
too_short ShortMonth.Last f day = false

-- monthly by date: the day of the month
unfoldable pub day_reason : ShortMonth → DayFacts → ℕ → Reason
day_reason c f day =
    if_b (too_short c f day) Reason.MonthTooShort (if_eq f.date.day day Reason.WrongWeek Reason.WrongDay)

-- yearly: the month, then the day of it
unfoldable pub month_reason : ShortMonth → DayFacts → ℕ → ℕ → Reason
month_reason c f month day = if_eq f.date.month month (day_reason c f day) Reason.WrongMonth
