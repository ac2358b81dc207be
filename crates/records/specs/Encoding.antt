-- The encoding of a record as bytes, document 01 "The book": type, length, fixed fields in the table's order, text, note.
-- Assumes nothing.
use Rattle.std.specs.Prelude.{Option, Some, None, ℕ, ◌+◌, ◌-◌, Bool, true, false, List, [], ◌∷◌, ◌++◌, length}
use Rattle.prelude.specs.Choice.{if_lt, if_eq}
use Rattle.prelude.specs.Bytes.{byte, bit, le16, be16}
use Rattle.days.specs.declared.types.Date.{Date}
use Rattle.records.specs.declared.types.Repeat.{Repeat}
use Rattle.records.specs.declared.types.Record.{Record}

-- "date = year from 1900, month, day"
unfoldable pub date_bytes : Date → List ℕ
date_bytes d = (d.year - 1900) ∷ (d.month ∷ (d.day ∷ []))

-- "a to-do's bit 1 is checked off": what it adds to the state
unfoldable pub check_off_bit : Option Date → ℕ
check_off_bit None = 0
check_off_bit (Some d) = 2

-- "A check-off date is three zeros with bit 1 clear, or a real date with bit 1 set."
unfoldable pub check_off_bytes : Option Date → List ℕ
check_off_bytes None = 0 ∷ (0 ∷ (0 ∷ []))
check_off_bytes (Some d) = date_bytes d

-- "tail = end minute, end date, lead, text length, note length of two bytes"
unfoldable pub tail_bytes : Repeat → ℕ → ℕ → List ℕ
tail_bytes r t n = le16 r.end.0 ++ (date_bytes r.last ++ (r.lead ∷ (t ∷ le16 n)))

-- types 2 to 5: ".. start minute, start date, tail"
unfoldable pub from_start : Repeat → ℕ → ℕ → List ℕ
from_start r t n = be16 r.start.0 ++ (date_bytes r.first ++ tail_bytes r t n)

-- "Fixed fields after the three head bytes, in order", for a text of t and a note of n bytes. The state is first:
-- "State bit 0 is the alarm (to-do: carry forward); a to-do's bit 1 is checked off; other bits are .. written as 0"
unfoldable pub fixed_bytes : Record → ℕ → ℕ → List ℕ
fixed_bytes (Record.Dated d) t n =
    bit d.alarm ∷ (date_bytes d.date ++ (be16 d.start.0 ++ (le16 d.end.0 ++ (d.lead ∷ (t ∷ le16 n)))))
fixed_bytes (Record.Weekly w) t n = bit w.repeat.alarm ∷ (w.weekday ∷ from_start w.repeat t n)
fixed_bytes (Record.MonthlyByDate m) t n = bit m.repeat.alarm ∷ (m.day ∷ from_start m.repeat t n)
fixed_bytes (Record.MonthlyByPosition m) t n =
    bit m.repeat.alarm ∷ (m.week ∷ (m.weekday ∷ from_start m.repeat t n))
fixed_bytes (Record.Yearly y) t n = bit y.repeat.alarm ∷ (y.month ∷ (y.day ∷ from_start y.repeat t n))
fixed_bytes (Record.ToDo d) t n =
    (bit d.carry_forward + check_off_bit d.check_off)
    ∷ (d.priority ∷ (date_bytes d.start ++ (check_off_bytes d.check_off ++ (t ∷ le16 n))))

-- the table's "type"
unfoldable pub type_of : Record → ℕ
type_of (Record.Dated d) = 1
type_of (Record.Weekly w) = 2
type_of (Record.MonthlyByDate m) = 3
type_of (Record.MonthlyByPosition m) = 4
type_of (Record.Yearly y) = 5
type_of (Record.ToDo d) = 6

-- "Text follows, then note, then padding .., never written."
unfoldable pub body_bytes : Record → List ℕ → List ℕ → List ℕ
body_bytes r text note = fixed_bytes r (length text) (length note) ++ (text ++ note)

-- "Records: type byte, length L in two bytes, then L bytes."
unfoldable pub encode : Record → List ℕ → List ℕ → List ℕ
encode r text note = type_of r ∷ (le16 (length (body_bytes r text note)) ++ body_bytes r text note)

-- "other bits are ignored when read and written as 0": none is set in the state of a body of type t beside bit 0 and, of a to-do, bit 1
unfoldable pub plain_state : ℕ → List ℕ → Bool
plain_state t p = if_lt (if_eq t 6 3 1) (byte p 0) false true
