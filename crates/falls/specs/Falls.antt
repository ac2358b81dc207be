-- When a record falls on a day, document 01's section of that name.
-- Assumes nothing.
use Rattle.std.specs.Prelude.{ℕ, ◌+◌, ◌-◌, ◌/◌, Bool, true, false}
use Rattle.prelude.specs.Choice.{if_lt, if_eq, if_b}
use Rattle.days.specs.Dates.{before}
use Rattle.days.specs.declared.types.DayFacts.{DayFacts}
use Rattle.records.specs.declared.types.Dated.{Dated}
use Rattle.records.specs.declared.types.Repeat.{Repeat}
use Rattle.records.specs.declared.types.Weekly.{Weekly}
use Rattle.records.specs.declared.types.MonthlyByDate.{MonthlyByDate}
use Rattle.records.specs.declared.types.MonthlyByPosition.{MonthlyByPosition}
use Rattle.records.specs.declared.types.Yearly.{Yearly}
use Rattle.records.specs.declared.types.Record.{Record}
use Rattle.falls.specs.declared.types.ShortMonth.{ShortMonth}

-- document 02, R-3: "A caller that names no choice now gets last."
unfoldable pub default_choice : ShortMonth
default_choice = ShortMonth.Last

-- "Type 1: on its date."
unfoldable pub dated_falls : DayFacts → Dated → Bool
dated_falls f d =
    if_eq f.date.day d.date.day
    (if_eq f.date.month d.date.month (if_eq f.date.year d.date.year true false) false) false

-- "Types 2 to 5: only from start date to end date."
unfoldable pub in_span : DayFacts → Repeat → Bool
in_span f r = if_b (before f.date r.first) false (if_b (before r.last f.date) false true)

-- "Weekly: same weekday."
unfoldable pub weekly_falls : DayFacts → Weekly → Bool
weekly_falls f w = if_eq f.weekday w.weekday (in_span f w.repeat) false

-- "Position: same weekday and (day of month − 1) / 7 + 1, rounded down, equals the week."
abbrev pub week_of_month : DayFacts → ℕ
week_of_month f = (f.date.day - 1) / 7 + 1

unfoldable pub by_position_falls : DayFacts → MonthlyByPosition → Bool
by_position_falls f m = if_eq f.weekday m.weekday (if_eq (week_of_month f) m.week (in_span f m.repeat) false) false

-- "If these two's day doesn't exist in that month, the short-month choice decides: skip shows nothing, last shows it on the month's last day."
unfoldable pub on_missing_day : ShortMonth → DayFacts → Bool
on_missing_day ShortMonth.Skip f = false
on_missing_day ShortMonth.Last f = if_eq f.date.day f.length true false

-- "Monthly by date and yearly: day (and month) equal."
unfoldable pub on_day : ShortMonth → DayFacts → ℕ → Bool
on_day c f day = if_lt f.length day (on_missing_day c f) (if_eq f.date.day day true false)

unfoldable pub by_date_falls : ShortMonth → DayFacts → MonthlyByDate → Bool
by_date_falls c f m = if_b (on_day c f m.day) (in_span f m.repeat) false

unfoldable pub yearly_falls : ShortMonth → DayFacts → Yearly → Bool
yearly_falls c f y = if_eq f.date.month y.month (if_b (on_day c f y.day) (in_span f y.repeat) false) false

-- each kind by its rule; "To-do: on no day."
unfoldable pub falls : ShortMonth → DayFacts → Record → Bool
falls c f (Record.Dated d) = dated_falls f d
falls c f (Record.Weekly w) = weekly_falls f w
falls c f (Record.MonthlyByDate m) = by_date_falls c f m
falls c f (Record.MonthlyByPosition m) = by_position_falls f m
falls c f (Record.Yearly y) = yearly_falls c f y
falls c f (Record.ToDo t) = false
