-- A record's rule as numbers, whether it shows on a day, and how many days it surely does not show on after that.
-- Assumes nothing.
use Rattle.std.specs.Prelude.{ℕ, ◌+◌, ◌-◌, ◌/◌, ◌%◌, Bool, true, false}
use Rattle.prelude.specs.Choice.{if_lt, if_eq, if_b}
use Rattle.days.specs.declared.types.DayFacts.{DayFacts}
use Rattle.day_steps.specs.Codes.{date_code, date_of_code, date_in, month_in, day_in, weekday_in, month_length_in}
use Rattle.day_steps.specs.Moves.{moved_to}
use Rattle.records.specs.declared.types.Repeat.{Repeat}
use Rattle.records.specs.declared.types.Record.{Record}
use Rattle.falls.specs.declared.types.ShortMonth.{ShortMonth}
use Rattle.occurrences.specs.declared.types.Rule.{Rule}

-- a wait longer than any span
abbrev pub longest_wait : ℕ
longest_wait = 366

abbrev pub repeated : ℕ → ℕ → ℕ → Repeat → Rule
repeated kind a b r = record { kind = kind; a = a; b = b; first = date_code r.first; last = date_code r.last }

unfoldable pub rule_of : Record → Rule
rule_of (Record.Dated d) = record { kind = 1; a = 0; b = 0; first = date_code d.date; last = date_code d.date }
rule_of (Record.Weekly w) = repeated 2 w.weekday 0 w.repeat
rule_of (Record.MonthlyByDate m) = repeated 3 m.day 0 m.repeat
rule_of (Record.MonthlyByPosition m) = repeated 4 m.weekday m.week m.repeat
rule_of (Record.Yearly y) = repeated 5 y.month y.day y.repeat
rule_of (Record.ToDo t) = record { kind = 6; a = 0; b = 0; first = 0; last = 0 }

-- the rules of document 01 over codes
unfoldable pub missing_shows : ShortMonth → ℕ → Bool
missing_shows ShortMonth.Skip p = false
missing_shows ShortMonth.Last p = if_eq (day_in p) (month_length_in p) true false

unfoldable pub day_shows : ShortMonth → ℕ → ℕ → Bool
day_shows c p day = if_lt (month_length_in p) day (missing_shows c p) (if_eq (day_in p) day true false)

unfoldable pub on_date : ShortMonth → Rule → ℕ → Bool
on_date c r p =
    if_eq r.kind 2 (if_eq (weekday_in p) r.a true false)
    (if_eq r.kind 1 true
    (if_eq r.kind 3 (day_shows c p r.a)
    (if_eq r.kind 4 (if_eq (weekday_in p) r.a (if_eq ((day_in p + 6) / 7) r.b true false) false)
    (if_eq r.kind 5 (if_eq (month_in p) r.a (day_shows c p r.b) false) false))))

unfoldable pub in_dates : Rule → ℕ → Bool
in_dates r p = if_lt (date_in p) r.first false (if_lt r.last (date_in p) false true)

-- whether a rule shows on the day of a code
unfoldable pub rule_shows : ShortMonth → Rule → ℕ → Bool
rule_shows c r p = if_b (on_date c r p) (in_dates r p) false

-- where the search for a rule's days begins: on its first date where that is ahead, else on the day of f
unfoldable pub start_from : Rule → DayFacts → DayFacts
start_from r f = if_lt (date_code f.date) r.first (moved_to f (date_of_code r.first)) f

-- the first of the next month is so many days off
abbrev pub to_month : ℕ → ℕ
to_month p = month_length_in p - day_in p + 1

-- to a day of this month, its last one where it has no such day; else to the next month
unfoldable pub to_day : ℕ → ℕ → ℕ
to_day p day =
    if_lt (month_length_in p) day (if_lt (day_in p) (month_length_in p) (month_length_in p - day_in p) 1)
    (if_lt (day_in p) day (day - day_in p) (to_month p))

-- to a weekday, one day or more
abbrev pub to_weekday : ℕ → ℕ → ℕ
to_weekday p weekday = (weekday + 13 - weekday_in p) % 7 + 1

-- to a date, or to the next month where that comes first; one day where the date is not ahead
unfoldable pub to_date : ℕ → ℕ → ℕ
to_date p date = if_lt (date_in p) date (if_lt (date - date_in p) (to_month p) (date - date_in p) (to_month p)) 1

-- so many days on the rule can show again, and not before; the longest wait where it never does
unfoldable pub wait_for : Rule → ℕ → ℕ
wait_for r p =
    if_lt (date_in p) r.last
    (if_eq r.kind 2 (to_weekday p r.a)
    (if_eq r.kind 1 (to_date p r.first)
    (if_eq r.kind 3 (to_day p r.a)
    (if_eq r.kind 4 (to_weekday p r.a)
    (if_eq r.kind 5 (if_eq (month_in p) r.a (to_day p r.b) (to_month p)) longest_wait)))))
    longest_wait

-- so many days at least lie between two days on which a rule that is not weekly shows: no month has less than 28
unfoldable pub gap_of : ℕ → ℕ
gap_of kind = if_eq kind 1 1 28
