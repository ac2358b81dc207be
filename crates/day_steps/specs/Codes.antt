-- A date and a day's facts as one number each, and what such a number holds.
-- Assumes nothing.
use Rattle.std.specs.Prelude.{ℕ, ◌+◌, ◌*◌, ◌/◌, ◌%◌, ◌<◌, ◌≤◌, ◌≡◌, List, length, get_or}
use Rattle.days.specs.Days.{last_day}
use Rattle.days.specs.Facts.{facts_of}
use Rattle.days.specs.declared.types.Date.{Date}
use Rattle.days.specs.declared.types.DayFacts.{DayFacts}

-- dates in their order
abbrev pub date_code : Date → ℕ
date_code d = (d.year * 16 + d.month) * 32 + d.day

-- what such a code holds
abbrev pub year_of_code : ℕ → ℕ
year_of_code code = code / 512

abbrev pub month_of_code : ℕ → ℕ
month_of_code code = code / 32 % 16

abbrev pub day_of_code : ℕ → ℕ
day_of_code code = code % 32

-- its date; a year has 16 bits
abbrev pub date_of_code : ℕ → Date
date_of_code code = record { year = year_of_code code % 65536; month = month_of_code code; day = day_of_code code }

abbrev pub day_code : DayFacts → ℕ
day_code f = date_code f.date * 256 + f.weekday * 32 + f.length

-- what a day's code holds
abbrev pub date_in : ℕ → ℕ
date_in p = p / 256

abbrev pub month_in : ℕ → ℕ
month_in p = p / 8192 % 16

abbrev pub day_in : ℕ → ℕ
day_in p = p / 256 % 32

abbrev pub weekday_in : ℕ → ℕ
weekday_in p = p / 32 % 8

abbrev pub month_length_in : ℕ → ℕ
month_length_in p = p % 32

-- the codes of days one after the other, from a first one on
pub record Spanned (first : ℕ) (days : List ℕ) : Type 0 where
  pub each : (k : ℕ) → k < length days → get_or days k 0 ≡ day_code (facts_of (first + k))
  pub end : first + length days ≤ last_day + 1

-- the same from some day on
pub record Days (days : List ℕ) : Type 0 where
  pub first : ℕ
  pub spanned : Spanned first days

-- a date whose numbers have room in its code
pub record FitsCode (d : Date) : Type 0 where
  pub month : d.month < 16
  pub day : d.day < 32

-- the same of a day's facts
pub record Known (f : DayFacts) : Type 0 where
  pub year : f.date.year ≤ 2099
  pub date : FitsCode f.date
  pub first : 1 ≤ f.date.day
  pub weekday : f.weekday < 8
  pub length : f.length < 32
