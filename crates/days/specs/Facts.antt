-- The facts of a day that the layers above ask at once, and the facts of the day after, from them alone.
-- Assumes nothing.
use Rattle.std.specs.Prelude.{ℕ, ◌+◌}
use Rattle.prelude.specs.Choice.{if_lt}
use Rattle.days.specs.Dates.{month_length}
use Rattle.days.specs.Days.{date_of, weekday_of, next_weekday, last_day}
use Rattle.days.specs.declared.types.Date.{Date}
use Rattle.days.specs.declared.types.DayFacts.{DayFacts}

-- the facts that belong together: a day, its date, its weekday, the length of its month
abbrev pub facts_with : ℕ → Date → ℕ → DayFacts
facts_with n d w =
    record { day = record { 0 = n }; date = d; weekday = w; length = month_length d.year d.month }

-- the facts of a Calendar day
unfoldable pub facts_of : ℕ → DayFacts
facts_of n = facts_with n (date_of n) (weekday_of n)

-- the day after in the same month
abbrev pub later_in_month : DayFacts → DayFacts
later_in_month f =
    record {
      day = record { 0 = f.day.0 + 1 };
      date = record { year = f.date.year; month = f.date.month; day = f.date.day + 1 };
      weekday = next_weekday f.weekday;
      length = f.length;
    }

-- the day after, as the first of a month
abbrev pub first_of_month : DayFacts → ℕ → ℕ → DayFacts
first_of_month f y m = facts_with (f.day.0 + 1) (record { year = y; month = m; day = 1 }) (next_weekday f.weekday)

unfoldable pub stepped : DayFacts → DayFacts
stepped f =
    if_lt f.date.day f.length (later_in_month f)
    (if_lt f.date.month 12 (first_of_month f f.date.year (f.date.month + 1)) (first_of_month f (f.date.year + 1) 1))

-- the facts of the day after; past the last day, or a year past 2099, the facts stay
unfoldable pub next_facts : DayFacts → DayFacts
next_facts f = if_lt f.day.0 last_day (if_lt 2099 f.date.year f (stepped f)) f
