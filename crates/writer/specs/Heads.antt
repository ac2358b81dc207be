-- A record's bytes as they are written: the head with the fixed bytes, then the text, then the note; and what fits into bytes.
-- Assumes nothing.
use Rattle.std.specs.Prelude.{Option, Some, None, ℕ, ◌+◌, ◌<◌, ◌≤◌, ◌≡◌, List, ◌∷◌, ◌++◌, length}
use Rattle.prelude.specs.Bytes.{bit, le16}
use Rattle.prelude.specs.Splice.{splice}
use Rattle.texts.specs.Notes.{most_text, most_note}
use Rattle.records.specs.Fields.{fixed_of}
use Rattle.records.specs.Encoding.{date_bytes, from_start, fixed_bytes, type_of}
use Rattle.records.specs.Invariants.{ThreeBytes}
use Rattle.records.specs.declared.types.Record.{Record}
use Rattle.records.specs.declared.types.Repeat.{Repeat}
use Rattle.records.specs.declared.types.Dated.{Dated}
use Rattle.records.specs.declared.types.ToDo.{ToDo}
use Rattle.days.specs.declared.types.Date.{Date}

-- the three head bytes and the fixed bytes of a record with a text of t and a note of n bytes
unfoldable pub record_head : Record → ℕ → ℕ → List ℕ
record_head r t n = type_of r ∷ (le16 (fixed_of (type_of r) + t + n) ++ fixed_bytes r t n)

-- types 2 and 3: one number, then from the start minute on
abbrev pub short_head : ℕ → ℕ → Repeat → ℕ → ℕ → List ℕ
short_head kind a r t n = kind ∷ (le16 (16 + t + n) ++ (bit r.alarm ∷ (a ∷ from_start r t n)))

-- types 4 and 5: two numbers
abbrev pub long_head : ℕ → ℕ → ℕ → Repeat → ℕ → ℕ → List ℕ
long_head kind a b r t n = kind ∷ (le16 (17 + t + n) ++ (bit r.alarm ∷ (a ∷ (b ∷ from_start r t n))))

-- what fits into bytes, kind by kind
pub record DatedFit (d : Dated) : Type 0 where
  pub date : ThreeBytes d.date
  pub lead : d.lead < 256

pub record RepeatFit (r : Repeat) : Type 0 where
  pub first : ThreeBytes r.first
  pub last : ThreeBytes r.last
  pub lead : r.lead < 256

abbrev pub CheckFit : Option Date → Type 0
CheckFit None = Unit {0}
CheckFit (Some d) = ThreeBytes d

pub record ToDoFit (t : ToDo) : Type 0 where
  pub start : ThreeBytes t.start
  pub priority : t.priority < 256
  pub check : CheckFit t.check_off

-- type 6: the check-off's bit and its three bytes
abbrev pub to_do_head : ToDo → ℕ → ℕ → ℕ → ℕ → ℕ → ℕ → List ℕ
to_do_head d mark y m day t n =
    6 ∷ (le16 (11 + t + n) ++ ((bit d.carry_forward + mark) ∷ (d.priority ∷ (date_bytes d.start ++ (y ∷ (m ∷ (day ∷ (t ∷ le16 n))))))))

-- the lengths that text and note have when their rules hold
pub record Lengths (text note : List ℕ) : Type 0 where
  pub text-most : length text ≤ most_text
  pub note-most : length note ≤ most_note

-- a call that put bytes at a place: the next place, and the buffer in the end
pub record Put (at : ℕ) (bytes before : List ℕ) (r : ℕ) (after : List ℕ) : Type 0 where
  pub next : r ≡ at + length bytes
  pub put : after ≡ splice before at bytes
