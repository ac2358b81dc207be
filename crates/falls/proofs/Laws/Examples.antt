-- Slips that look right, document 01 and the readings: what the rules say of single days. And what requests R-3 and R-7 expect of one.
-- Assumes nothing.
use Rattle.std.specs.Prelude.{ℕ, ◌≡◌, refl, true, false}
use Rattle.prelude.specs.Choice.{if_lt, if_eq, if_b}
use Rattle.days.specs.Dates.{before}
use Rattle.days.specs.declared.types.Date.{Date}
use Rattle.days.specs.declared.types.DayFacts.{DayFacts}
use Rattle.records.specs.declared.types.Repeat.{Repeat}
use Rattle.records.specs.declared.types.Record.{Record}
use Rattle.falls.specs.Falls.{default_choice, in_span, by_position_falls, on_missing_day, on_day, by_date_falls, falls}
use Rattle.falls.specs.Moved.{named_day, day_missing, falling}
use Rattle.falls.specs.declared.types.ShortMonth.{ShortMonth}
use Rattle.falls.specs.declared.types.Falling.{Falling}

abbrev on : ℕ → ℕ → ℕ → Date
on y m d = record { year = y; month = m; day = d }

-- from 1 January 1980 to a date
abbrev until : Date → Repeat
until d = record { alarm = false; start = record { 0 = 600 }; first = on 1980 1 1; end = record { 0 = 660 }; last = d; lead = 0 }

-- Monday 22 February 1993, the last Monday of that month and the fourth
abbrev last_monday : DayFacts
last_monday = record { day = record { 0 = 4801 }; date = on 1993 2 22; weekday = 2; length = 28 }

abbrev monday : ℕ → Record
monday week = Record.MonthlyByPosition (record { week = week; weekday = 2; repeat = until (on 2099 12 31) })

-- week 5 is not "last"
pub fifth_not_last : (falls ShortMonth.Last last_monday (monday 5) ≡ false) × (falls ShortMonth.Last last_monday (monday 4) ≡ true)
unfolding falls by_position_falls in_span before if_lt if_eq if_b
fifth_not_last = (refl, refl)

-- Friday 30 April 1993
abbrev april30 : DayFacts
april30 = record { day = record { 0 = 4868 }; date = on 1993 4 30; weekday = 6; length = 30 }

abbrev on31 : Date → Record
on31 d = Record.MonthlyByDate (record { day = 31; repeat = until d })

-- "skip" and "last"; the end date is judged on the day where the record shows
pub short_month : (falls ShortMonth.Skip april30 (on31 (on 2099 12 31)) ≡ false) × (falls ShortMonth.Last april30 (on31 (on 2099 12 31)) ≡ true) × (falls ShortMonth.Last april30 (on31 (on 1993 4 30)) ≡ true) × (falls ShortMonth.Last april30 (on31 (on 1993 4 29)) ≡ false)
unfolding falls by_date_falls on_day on_missing_day in_span before if_lt if_eq if_b
short_month = (refl, refl, refl, refl)

-- R-3: "Reporters expect the sitting on the 31st to show on the 30th of April." Not public: nothing else is to know the default.
default_shows : falls default_choice april30 (on31 (on 2099 12 31)) ≡ true
unfolding default_choice falls by_date_falls on_day on_missing_day in_span before if_lt if_eq if_b
default_shows = refl

abbrev on30 : Record
on30 = Record.MonthlyByDate (record { day = 30; repeat = until (on 2099 12 31) })

-- R-7: "A sitting shown on the 30th because of "last" surprises people." That of the 30th itself is on its own day.
pub shown-on_30 : (falling ShortMonth.Last april30 (on31 (on 2099 12 31)) ≡ Falling.Moved) × (falling ShortMonth.Skip april30 (on31 (on 2099 12 31)) ≡ Falling.No) × (falling ShortMonth.Last april30 on30 ≡ Falling.Own)
unfolding falling named_day day_missing falls by_date_falls on_day on_missing_day in_span before if_lt if_eq if_b
shown-on_30 = (refl, refl, refl)
