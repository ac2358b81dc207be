-- Single days, document 02, R-8, and the readings: a month too short under skip, moved under last, and before start ahead of both.
-- Assumes nothing.
use Rattle.std.specs.Prelude.{None, ℕ, ◌≡◌, refl, false}
use Rattle.prelude.specs.Choice.{if_lt, if_eq, if_b}
use Rattle.days.specs.Dates.{before}
use Rattle.days.specs.declared.types.Date.{Date}
use Rattle.days.specs.declared.types.DayFacts.{DayFacts}
use Rattle.records.specs.declared.types.Repeat.{Repeat}
use Rattle.records.specs.declared.types.Record.{Record}
use Rattle.falls.specs.Falls.{dated_falls, in_span, weekly_falls, by_position_falls, on_missing_day, on_day, by_date_falls, yearly_falls, falls}
use Rattle.falls.specs.Moved.{named_day, day_missing, falling}
use Rattle.falls.specs.declared.types.ShortMonth.{ShortMonth}
use Rattle.reasons.specs.Reasons.{first_date, last_date, own_month, own_day, own_weekday, is_earlier, is_later, is_other, is_to_do, is_too_short, absent_for, or_else, reason_of}
use Rattle.reasons.specs.declared.types.Reason.{Reason}

abbrev on : ℕ → ℕ → ℕ → Date
on y m d = record { year = y; month = m; day = d }

abbrev from : Date → Date → Repeat
from first last = record { alarm = false; start = record { 0 = 600 }; first = first; end = record { 0 = 660 }; last = last; lead = 0 }

abbrev always : Repeat
always = from (on 1980 1 1) (on 2099 12 31)

-- Friday 30 April 1993, and the Thursday before it
abbrev april30 : DayFacts
april30 = record { day = record { 0 = 4868 }; date = on 1993 4 30; weekday = 6; length = 30 }

abbrev april29 : DayFacts
april29 = record { day = record { 0 = 4867 }; date = on 1993 4 29; weekday = 5; length = 30 }

abbrev on31 : Repeat → Record
on31 p = Record.MonthlyByDate (record { day = 31; repeat = p })

abbrev Gives : ShortMonth → DayFacts → Record → Reason → Type 0
Gives c f r q = reason_of c f r ≡ q

-- each 31st: too short only under skip and on the month's last day; "before start" and "after end" come first
pub each_31st :
    Gives ShortMonth.Last april30 (on31 always) Reason.Moved
    × Gives ShortMonth.Skip april30 (on31 always) Reason.MonthTooShort
    × Gives ShortMonth.Skip april29 (on31 always) Reason.WrongDay
    × Gives ShortMonth.Last april29 (on31 always) Reason.WrongDay
    × Gives ShortMonth.Skip april30 (on31 (from (on 1993 5 1) (on 2099 12 31))) Reason.BeforeStart
    × Gives ShortMonth.Skip april30 (on31 (from (on 1980 1 1) (on 1993 4 29))) Reason.AfterEnd
unfolding reason_of or_else absent_for is_to_do is_earlier is_later is_other is_too_short first_date last_date own_month own_day own_weekday falling named_day day_missing falls by_date_falls on_day on_missing_day in_span before if_lt if_eq if_b
each_31st = (refl, refl, refl, refl, refl, refl)

abbrev each : ℕ → ℕ → Record
each month day = Record.Yearly (record { month = month; day = day; repeat = always })

-- Sunday 28 February 1993
abbrev february28 : DayFacts
february28 = record { day = record { 0 = 4807 }; date = on 1993 2 28; weekday = 1; length = 28 }

-- each 31 December, 29 April, 30 April and 29 February: "wrong month" ahead of "month too short"
pub each_year :
    Gives ShortMonth.Skip april30 (each 12 31) Reason.WrongMonth
    × Gives ShortMonth.Skip april30 (each 4 29) Reason.WrongDay
    × Gives ShortMonth.Skip april30 (each 4 30) Reason.OwnDay
    × Gives ShortMonth.Skip february28 (each 2 29) Reason.MonthTooShort
    × Gives ShortMonth.Last february28 (each 2 29) Reason.Moved
unfolding reason_of or_else absent_for is_to_do is_earlier is_later is_other is_too_short first_date last_date own_month own_day own_weekday falling named_day day_missing falls yearly_falls on_day on_missing_day in_span before if_lt if_eq if_b
each_year = (refl, refl, refl, refl, refl)

abbrev position : ℕ → ℕ → Record
position week weekday = Record.MonthlyByPosition (record { week = week; weekday = weekday; repeat = always })

-- 30 April 1993 is its month's fifth Friday
pub each_week :
    Gives ShortMonth.Skip april30 (position 5 6) Reason.OwnDay
    × Gives ShortMonth.Skip april30 (position 4 6) Reason.WrongWeek
    × Gives ShortMonth.Skip april30 (position 4 2) Reason.WrongWeekday
    × Gives ShortMonth.Skip april30 (Record.Weekly (record { weekday = 2; repeat = always })) Reason.WrongWeekday
unfolding reason_of or_else absent_for is_to_do is_earlier is_later is_other is_too_short first_date last_date own_month own_day own_weekday falling named_day day_missing falls weekly_falls by_position_falls in_span before if_lt if_eq if_b
each_week = (refl, refl, refl, refl)

abbrev dated : Date → Record
dated d = Record.Dated (record { alarm = false; date = d; start = record { 0 = 600 }; end = record { 0 = 660 }; lead = 0 })

-- "A dated record on another day is before start or after end."
pub another_day :
    Gives ShortMonth.Skip april30 (dated (on 1993 4 30)) Reason.OwnDay
    × Gives ShortMonth.Skip april30 (dated (on 1993 5 1)) Reason.BeforeStart
    × Gives ShortMonth.Skip april30 (dated (on 1993 4 29)) Reason.AfterEnd
unfolding reason_of or_else absent_for is_to_do is_earlier is_later is_other is_too_short first_date last_date own_month own_day own_weekday falling named_day day_missing falls dated_falls before if_lt if_eq if_b
another_day = (refl, refl, refl)

-- a to-do of that day
pub to_do_lem :
    Gives ShortMonth.Last april30 (Record.ToDo (record { carry_forward = false; priority = 1; start = on 1993 4 30; check_off = None })) Reason.IsToDo
unfolding reason_of or_else absent_for is_to_do falling falls if_b
to_do_lem = refl
