-- The lines of a record's note, by the book's own refusals, then 10 for the record, then 10 for the line.
-- Assumes nothing.
use Rattle.std.specs.Prelude.{Result, Ok, Err, ℕ, ◌+◌, List, length}
use Rattle.prelude.specs.Choice.{if_lt}
use Rattle.prelude.specs.Bytes.{stretch_bytes}
use Rattle.prelude.specs.Refusals.{no_such_number, refusal}
use Rattle.prelude.specs.declared.slices.Stretch.{Stretch}
use Rattle.texts.specs.Notes.{lines_of}
use Rattle.texts.specs.Lines.{line_start, line_length}
use Rattle.book.specs.Books.{record_answer}
use Rattle.prelude.specs.declared.refusals.Refusal.{Refusal}
use Rattle.book.specs.declared.types.Entry.{Entry}

-- a record's note, as a stretch of the file
unfoldable pub note_from : Result Entry Refusal → Result Stretch Refusal
note_from (Ok e) = Ok e.note
note_from (Err r) = Err r

-- how many lines it has
unfoldable pub lines_in : List ℕ → Result Stretch Refusal → Result ℕ Refusal
lines_in f (Ok s) = Ok (length (lines_of (stretch_bytes f s)))
lines_in f (Err r) = Err r

unfoldable pub lines_answer : List ℕ → ℕ → Result ℕ Refusal
lines_answer f k = lines_in f (note_from (record_answer f k))

-- line j of a note, as a stretch of the file
unfoldable pub note_line_of : List ℕ → ℕ → Stretch → Result Stretch Refusal
note_line_of f j s =
    if_lt j (length (lines_of (stretch_bytes f s)))
    (Ok
    (record { place = s.place + line_start (stretch_bytes f s) j; length = line_length (stretch_bytes f s) j }))
    (Err (refusal no_such_number))

unfoldable pub note_line_in : List ℕ → ℕ → Result Stretch Refusal → Result Stretch Refusal
note_line_in f j (Ok s) = note_line_of f j s
note_line_in f j (Err r) = Err r

unfoldable pub line_answer : List ℕ → ℕ → ℕ → Result Stretch Refusal
line_answer f k j = note_line_in f j (note_from (record_answer f k))
