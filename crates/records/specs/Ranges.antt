-- When a record's fields are in range, document 01 "Ranges": one judge a kind, for reading and for writing. Otherwise the refusal is 7.
-- Assumes nothing.
use Rattle.std.specs.Prelude.{Option, Some, None, ℕ, Bool, true, false, List}
use Rattle.prelude.specs.Choice.{if_lt, if_eq, if_b}
use Rattle.prelude.specs.Bytes.{byte}
use Rattle.days.specs.Dates.{month_length, real, before}
use Rattle.days.specs.Days.{last_minute}
use Rattle.records.specs.Fields.{bit1}
use Rattle.records.specs.declared.types.Dated.{Dated}
use Rattle.records.specs.declared.types.Repeat.{Repeat}
use Rattle.records.specs.declared.types.Weekly.{Weekly}
use Rattle.records.specs.declared.types.MonthlyByDate.{MonthlyByDate}
use Rattle.records.specs.declared.types.MonthlyByPosition.{MonthlyByPosition}
use Rattle.records.specs.declared.types.Yearly.{Yearly}
use Rattle.records.specs.declared.types.ToDo.{ToDo}
use Rattle.records.specs.declared.types.Record.{Record}
use Rattle.days.specs.declared.types.Date.{Date}

-- "Lead 0..30."
abbrev pub most_lead : ℕ
most_lead = 30

-- "Minutes 0..1,439, end not before start. Lead 0..30."
unfoldable pub times_ok : ℕ → ℕ → ℕ → Bool
times_ok start end lead =
    if_lt last_minute start false (if_lt last_minute end false (if_lt end start false (if_lt most_lead lead false true)))

-- "dates are real, 1980 to 2099"
unfoldable pub dated_ok : Dated → Bool
dated_ok d = if_b (real d.date) (times_ok d.start.0 d.end.0 d.lead) false

-- "Start date not after end date."
unfoldable pub repeat_ok : Repeat → Bool
repeat_ok r =
    if_b (real r.first)
    (if_b (real r.last) (if_b (before r.last r.first) false (times_ok r.start.0 r.end.0 r.lead)) false) false

-- n is one of a number's values, from the first to the last
unfoldable pub between : ℕ → ℕ → ℕ → Bool
between low n high = if_lt n low false (if_lt high n false true)

-- "weekday: 1 = Sunday to 7 = Saturday"
unfoldable pub weekly_ok : Weekly → Bool
weekly_ok w = if_b (between 1 w.weekday 7) (repeat_ok w.repeat) false

-- "day 1..31"
unfoldable pub monthly_by_date_ok : MonthlyByDate → Bool
monthly_by_date_ok m = if_b (between 1 m.day 31) (repeat_ok m.repeat) false

-- "week 1..5, weekday"
unfoldable pub monthly_by_position_ok : MonthlyByPosition → Bool
monthly_by_position_ok m =
    if_b (between 1 m.week 5) (if_b (between 1 m.weekday 7) (repeat_ok m.repeat) false) false

-- "A yearly day exists in that month of some year (29 February does, 30 February doesn't)": 2000 is a leap year
unfoldable pub yearly_ok : Yearly → Bool
yearly_ok y = if_b (between 1 y.day (month_length 2000 y.month)) (repeat_ok y.repeat) false

-- "A check-off date is .. a real date with bit 1 set"
unfoldable pub check_off_ok : Option Date → Bool
check_off_ok None = true
check_off_ok (Some d) = real d

-- "priority 1..9"
unfoldable pub to_do_ok : ToDo → Bool
to_do_ok t = if_b (between 1 t.priority 9) (if_b (real t.start) (check_off_ok t.check_off) false) false

unfoldable pub record_ok : Record → Bool
record_ok (Record.Dated d) = dated_ok d
record_ok (Record.Weekly w) = weekly_ok w
record_ok (Record.MonthlyByDate m) = monthly_by_date_ok m
record_ok (Record.MonthlyByPosition m) = monthly_by_position_ok m
record_ok (Record.Yearly y) = yearly_ok y
record_ok (Record.ToDo t) = to_do_ok t

-- "A check-off date is three zeros with bit 1 clear": what is asked of a to-do's bytes beside its record
unfoldable pub three_zeros : ℕ → ℕ → ℕ → Bool
three_zeros a b c = if_eq a 0 (if_eq b 0 (if_eq c 0 true false) false) false

unfoldable pub check_off_clean : List ℕ → Bool
check_off_clean p = if_b (bit1 p) true (three_zeros (byte p 5) (byte p 6) (byte p 7))
