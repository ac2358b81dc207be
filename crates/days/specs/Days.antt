-- Day numbers: month starts, the day of a date, the date and the weekday of a day. No table stands here.
-- Assumes nothing.
use Rattle.std.specs.Prelude.{ℕ, zero, suc, ◌+◌, ◌-◌, ◌*◌, ◌/◌, ◌%◌}
use Rattle.prelude.specs.Choice.{if_lt}
use Rattle.days.specs.Dates.{month_length}
use Rattle.days.specs.declared.types.Date.{Date}

-- "from 1 January 1980 = 0 to 31 December 2099 = 43,829"
abbrev pub last_day : ℕ
last_day = 43829

-- "A minute counts from midnight, 0 to 1,439."
abbrev pub last_minute : ℕ
last_minute = 1439

-- The months count from January 1980 = 0.
abbrev pub year_at : ℕ → ℕ
year_at i = 1980 + i / 12

abbrev pub month_at : ℕ → ℕ
month_at i = i % 12 + 1

unfoldable pub month_length_at : ℕ → ℕ
month_length_at i = month_length (year_at i) (month_at i)

-- "first entry 0, each next larger by the month's length"
unfoldable pub month_start : ℕ → ℕ
month_start zero = 0
month_start (suc i) = month_start i + month_length_at i

abbrev pub month_of : Date → ℕ
month_of d = (d.year - 1980) * 12 + (d.month - 1)

-- the Calendar day of a real date
unfoldable pub day_number : Date → ℕ
day_number d = month_start (month_of d) + (d.day - 1)

-- the date after a date
unfoldable pub next_date : Date → Date
next_date d =
    if_lt d.day (month_length d.year d.month) (record { year = d.year; month = d.month; day = d.day + 1 })
    (if_lt d.month 12 (record { year = d.year; month = d.month + 1; day = 1 }) (record { year = d.year + 1; month = 1; day = 1 }))

-- the date of a Calendar day: 1 January 1980, and then the next date again and again
unfoldable pub date_of : ℕ → Date
date_of zero = record { year = 1980; month = 1; day = 1 }
date_of (suc n) = next_date (date_of n)

-- "1 = Sunday to 7 = Saturday; day 0 is a Tuesday"
unfoldable pub next_weekday : ℕ → ℕ
next_weekday w = if_lt w 7 (w + 1) 1

unfoldable pub weekday_of : ℕ → ℕ
weekday_of zero = 3
weekday_of (suc n) = next_weekday (weekday_of n)
