-- The fields of a record's body, document 01 "The book": the bytes after the three head bytes. Bytes past the body's end count as 0.
-- Assumes nothing.
use Rattle.std.specs.Prelude.{Option, Some, None, ℕ, ◌+◌, ◌-◌, Bool, List, eqb}
use Rattle.std.specs.Int.Bits.{bit_and}
use Rattle.prelude.specs.Choice.{if_eq, if_b}
use Rattle.prelude.specs.Bytes.{byte, word, word_high, part}
use Rattle.days.specs.declared.types.Date.{Date}
use Rattle.days.specs.declared.types.Minute.{Minute}
use Rattle.records.specs.declared.types.Dated.{Dated}
use Rattle.records.specs.declared.types.Repeat.{Repeat}
use Rattle.records.specs.declared.types.Weekly.{Weekly}
use Rattle.records.specs.declared.types.MonthlyByDate.{MonthlyByDate}
use Rattle.records.specs.declared.types.MonthlyByPosition.{MonthlyByPosition}
use Rattle.records.specs.declared.types.Yearly.{Yearly}
use Rattle.records.specs.declared.types.ToDo.{ToDo}
use Rattle.records.specs.declared.types.Record.{Record}

-- "date = year from 1900, month, day"
abbrev pub date_at : List ℕ → ℕ → Date
date_at p i = record { year = 1900 + byte p i; month = byte p (i + 1); day = byte p (i + 2) }

-- "a record's start time has its high byte first"
abbrev pub start_at : List ℕ → ℕ → Minute
start_at p i = record { 0 = word_high p i }

abbrev pub minute_field : List ℕ → ℕ → Minute
minute_field p i = record { 0 = word p i }

-- "State bit 0 is the alarm (to-do: carry forward); a to-do's bit 1 is checked off"
abbrev pub bit0 : List ℕ → Bool
bit0 p = eqb (bit_and (byte p 0) 1) 1

abbrev pub bit1 : List ℕ → Bool
bit1 p = eqb (bit_and (byte p 0) 2) 2

-- type 1: "s, date, start minute, end minute, lead"
unfoldable pub dated_of : List ℕ → Dated
dated_of p = record { alarm = bit0 p; date = date_at p 1; start = start_at p 4; end = minute_field p 6; lead = byte p 8 }

-- types 2 to 5 from the start minute on, at place i: "start minute, start date", and of the tail "end minute, end date, lead"
unfoldable pub repeat_of : List ℕ → ℕ → Repeat
repeat_of p i =
    record {
      alarm = bit0 p;
      start = start_at p i;
      first = date_at p (i + 2);
      end = minute_field p (i + 5);
      last = date_at p (i + 7);
      lead = byte p (i + 10);
    }

-- type 2: "s, weekday, .."
unfoldable pub weekly_of : List ℕ → Weekly
weekly_of p = record { weekday = byte p 1; repeat = repeat_of p 2 }

-- type 3: "s, day 1..31, .."
unfoldable pub monthly_by_date_of : List ℕ → MonthlyByDate
monthly_by_date_of p = record { day = byte p 1; repeat = repeat_of p 2 }

-- type 4: "s, week 1..5, weekday, .."
unfoldable pub monthly_by_position_of : List ℕ → MonthlyByPosition
monthly_by_position_of p = record { week = byte p 1; weekday = byte p 2; repeat = repeat_of p 3 }

-- type 5: "s, month, day, .."
unfoldable pub yearly_of : List ℕ → Yearly
yearly_of p = record { month = byte p 1; day = byte p 2; repeat = repeat_of p 3 }

-- a to-do's bit 1 is "checked off", and the check-off date is there only with it
unfoldable pub check_off_of : List ℕ → Option Date
check_off_of p = if_b (bit1 p) (Some (date_at p 5)) None

-- type 6: "s, priority 1..9, start date, check-off date"
unfoldable pub to_do_of : List ℕ → ToDo
to_do_of p = record { carry_forward = bit0 p; priority = byte p 1; start = date_at p 2; check_off = check_off_of p }

-- the record of a type 1 to 6
unfoldable pub record_of : ℕ → List ℕ → Record
record_of t p =
    if_eq t 1 (Record.Dated (dated_of p))
    (if_eq t 2 (Record.Weekly (weekly_of p))
    (if_eq t 3 (Record.MonthlyByDate (monthly_by_date_of p))
    (if_eq t 4 (Record.MonthlyByPosition (monthly_by_position_of p))
    (if_eq t 5 (Record.Yearly (yearly_of p)) (Record.ToDo (to_do_of p))))))

-- "fixed bytes": 12, 16, 16, 17, 17, 11
unfoldable pub fixed_of : ℕ → ℕ
fixed_of t = if_eq t 1 12 (if_eq t 2 16 (if_eq t 3 16 (if_eq t 4 17 (if_eq t 5 17 11))))

-- the last of the fixed bytes: "text length, note length of two bytes"
abbrev pub text_length : ℕ → List ℕ → ℕ
text_length t p = byte p (fixed_of t - 3)

abbrev pub note_length : ℕ → List ℕ → ℕ
note_length t p = word p (fixed_of t - 2)

-- "Text follows, then note"
abbrev pub body_text : ℕ → List ℕ → List ℕ
body_text t p = part p (fixed_of t) (text_length t p)

abbrev pub body_note : ℕ → List ℕ → List ℕ
body_note t p = part p (fixed_of t + text_length t p) (note_length t p)
