-- Writing a book, document 01 "Writing": what each call gives, and what it leaves in the buffer.
-- Assumes nothing.
use Rattle.std.specs.Prelude.{Err, Result, Ok, ℕ, ◌+◌, Bool, true, false, List, [], ◌∷◌, ◌++◌, length}
use Rattle.prelude.specs.Choice.{if_lt, if_b}
use Rattle.prelude.specs.Bytes.{bit, le16}
use Rattle.prelude.specs.Splice.{splice}
use Rattle.prelude.specs.Refusals.{number_of, refusal}
use Rattle.prelude.specs.declared.refusals.Fault.{Fault}
use Rattle.texts.specs.Notes.{no_zero, note_ok, most_text}
use Rattle.records.specs.Ranges.{record_ok}
use Rattle.records.specs.Encoding.{encode}
use Rattle.records.specs.declared.types.Record.{Record}
use Rattle.book.specs.Settings.{settings_in_range, first_record}
use Rattle.book.specs.declared.types.Settings.{Settings}
use Rattle.book.specs.Books.{most_book_bytes}
use Rattle.writer.specs.declared.types.Writer.{Writer}
use Rattle.writer.specs.declared.types.WriteRefusal.{WriteRefusal}

-- done with the next state where the judgement is fine, else refused with the state that came
unfoldable pub gives_where : Result (Unit {0}) Fault → Writer → Writer → Result Writer WriteRefusal
gives_where (Ok tt) next came = Ok next
gives_where (Err fault) next came = Err (record { refusal = refusal (number_of fault); writer = came })

-- the judgement, with the state that came beside a refusal
unfoldable pub passed : Result (Unit {0}) Fault → Writer → Result (Unit {0}) WriteRefusal
passed (Ok tt) came = Ok tt
passed (Err fault) came = Err (record { refusal = refusal (number_of fault); writer = came })

-- the buffer with bytes written at a place where the judgement is fine, else as it was
unfoldable pub leaves_where : Result (Unit {0}) Fault → List ℕ → ℕ → List ℕ → List ℕ
leaves_where (Ok tt) buffer at bytes = splice buffer at bytes
leaves_where (Err fault) buffer at bytes = buffer

-- "Identification, 5 bytes"; "Settings, 7 bytes"
unfoldable pub open_bytes : Settings → List ℕ
open_bytes s =
    0xFF ∷ (0xFF ∷ (0x01 ∷ (0x00 ∷ (0x01 ∷ (le16 s.start.0 ++ (le16 s.granularity ++ (bit s.alarm ∷ (s.lead ∷ (bit s.carry_forward ∷ [])))))))))

-- "open (3, then 12)": "Open needs 15 bytes of room"
unfoldable pub open_refusal : Settings → ℕ → Result (Unit {0}) Fault
open_refusal s size = if_b (settings_in_range s) (if_lt size 15 (Err Fault.NoRoom) (Ok tt)) (Err Fault.BadSettings)

unfoldable pub open_gives : Settings → ℕ → Result Writer WriteRefusal
open_gives s size = gives_where (open_refusal s size) (record { used = first_record; closed = false }) (record { used = 0; closed = false })

unfoldable pub open_leaves : Settings → List ℕ → List ℕ
open_leaves s b = leaves_where (open_refusal s (length b)) b 0 (open_bytes s)

-- "used + record + 3 exceeds the buffer or 65,535"
unfoldable pub room_refusal : ℕ → ℕ → Result (Unit {0}) Fault
room_refusal size end = if_lt size (end + 3) (Err Fault.NoRoom) (if_lt most_book_bytes (end + 3) (Err Fault.NoRoom) (Ok tt))

-- "used below 12 counts as not opened"
unfoldable pub state_open : Writer → Bool
state_open w = if_lt w.used first_record false (if_b w.closed false true)

-- "add (14, 6, 7, 8, 12)"; "Added texts over 27 give 6"
unfoldable pub add_refusal : Writer → ℕ → Record → List ℕ → List ℕ → Result (Unit {0}) Fault
add_refusal w size r text note =
    if_b (state_open w)
    (if_lt most_text (length text) (Err Fault.BadLength)
    (if_b (record_ok r)
    (if_b (no_zero text)
    (if_b (note_ok note) (room_refusal size (w.used + length (encode r text note))) (Err Fault.BadText))
    (Err Fault.BadText))
    (Err Fault.BadField)))
    (Err Fault.NotOpen)

unfoldable pub add_gives : Writer → ℕ → Record → List ℕ → List ℕ → Result Writer WriteRefusal
add_gives w size r text note =
    gives_where (add_refusal w size r text note) (record { used = w.used + length (encode r text note); closed = false }) w

unfoldable pub add_leaves : Writer → List ℕ → Record → List ℕ → List ℕ → List ℕ
add_leaves w b r text note = leaves_where (add_refusal w (length b) r text note) b w.used (encode r text note)

-- "close (14, 12)": the end record, "32 00 00"
abbrev pub end_bytes : List ℕ
end_bytes = 0x32 ∷ (0x00 ∷ (0x00 ∷ []))

unfoldable pub close_refusal : Writer → ℕ → Result (Unit {0}) Fault
close_refusal w size = if_b (state_open w) (room_refusal size w.used) (Err Fault.NotOpen)

unfoldable pub close_gives : Writer → ℕ → Result Writer WriteRefusal
close_gives w size = gives_where (close_refusal w size) (record { used = w.used + 3; closed = true }) w

unfoldable pub close_leaves : Writer → List ℕ → List ℕ
close_leaves w b = leaves_where (close_refusal w (length b)) b w.used end_bytes
