-- What each question about days gives, 11 outside the range: the definitions that the contracts cite.
-- Assumes nothing.
use Rattle.std.specs.Prelude.{Result, Ok, Err, ℕ, ◌+◌, ◌-◌}
use Rattle.prelude.specs.Choice.{if_lt, if_b}
use Rattle.prelude.specs.Refusals.{out_of_range, refusal}
use Rattle.days.specs.Dates.{month_length, real}
use Rattle.days.specs.Days.{last_day, day_number, date_of, weekday_of}
use Rattle.days.specs.Facts.{facts_of, stepped}
use Rattle.days.specs.declared.types.Date.{Date}
use Rattle.days.specs.declared.types.DayFacts.{DayFacts}
use Rattle.days.specs.declared.types.CalendarDay.{CalendarDay}
use Rattle.days.specs.declared.types.PsionDay.{PsionDay}
use Rattle.prelude.specs.declared.refusals.Refusal.{Refusal}

-- a month of the years 1980 to 2099
unfoldable pub length_answer : ℕ → ℕ → Result ℕ Refusal
length_answer y m =
    if_lt y 1980 (Err (refusal out_of_range))
    (if_lt 2099 y (Err (refusal out_of_range))
    (if_lt m 1 (Err (refusal out_of_range))
    (if_lt 12 m (Err (refusal out_of_range)) (Ok (month_length y m)))))

-- the day of a real date
unfoldable pub day_answer : Date → Result CalendarDay Refusal
day_answer d =
    if_b (real d) (Ok (record { 0 = day_number d })) (Err (refusal out_of_range))

-- the date of a Calendar day
unfoldable pub date_answer : CalendarDay → Result Date Refusal
date_answer n = if_lt last_day n.0 (Err (refusal out_of_range)) (Ok (date_of n.0))

unfoldable pub weekday_answer : CalendarDay → Result ℕ Refusal
weekday_answer n =
    if_lt last_day n.0 (Err (refusal out_of_range)) (Ok (weekday_of n.0))

unfoldable pub facts_answer : CalendarDay → Result DayFacts Refusal
facts_answer n = if_lt last_day n.0 (Err (refusal out_of_range)) (Ok (facts_of n.0))

-- the facts of the day after; none after the last day, nor after a year past 2099
unfoldable pub next_answer : DayFacts → Result DayFacts Refusal
next_answer f =
    if_lt f.day.0 last_day
    (if_lt 2099 f.date.year (Err (refusal out_of_range)) (Ok (stepped f)))
    (Err (refusal out_of_range))

-- "Calendar day = Psion day − 3,652", for "Psion days 3,652 to 29,219"
abbrev pub psion_first : ℕ
psion_first = 3652

abbrev pub psion_last : ℕ
psion_last = 29219

unfoldable pub calendar_of_psion : PsionDay → Result CalendarDay Refusal
calendar_of_psion p =
    if_lt p.0 psion_first (Err (refusal out_of_range))
    (if_lt psion_last p.0 (Err (refusal out_of_range)) (Ok (record { 0 = p.0 - psion_first })))

unfoldable pub psion_of_calendar : CalendarDay → Result PsionDay Refusal
psion_of_calendar n =
    if_lt (psion_last - psion_first) n.0 (Err (refusal out_of_range))
    (Ok (record { 0 = n.0 + psion_first }))
