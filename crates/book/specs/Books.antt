-- A book as it is read, document 01 "Order": 1, 2, 3, then record by record, after the end record 9.
-- Assumes nothing.
use Rattle.std.specs.Prelude.{Result, Ok, Err, ℕ, suc, ◌+◌, List, [], map, length, get_or}
use Rattle.prelude.specs.Choice.{if_lt, if_b}
use Rattle.prelude.specs.Bytes.{stretch_bytes}
use Rattle.prelude.specs.Refusals.{book_too_long, not_a_book, bad_settings, no_such_number, refusal, refusal_at}
use Rattle.records.specs.Fields.{record_of, fixed_of, text_length, note_length}
use Rattle.book.specs.Settings.{book_identified, settings_of, settings_ok}
use Rattle.book.specs.Walk.{Walk, more, ended, stopped, type_at, body_at, walk_of, places_in}
use Rattle.book.specs.Fillers.{after_end_record}
use Rattle.book.specs.declared.types.Settings.{Settings}
use Rattle.book.specs.declared.types.Entry.{Entry}
use Rattle.prelude.specs.declared.refusals.Refusal.{Refusal}
use Rattle.book.specs.declared.types.Book.{Book}
use Rattle.prelude.specs.Verdicts.{Verdict}

-- refusal 1: a book has at most 65,535 bytes
abbrev pub most_book_bytes : ℕ
most_book_bytes = 65535

-- a record takes 14 bytes or more, so that no book has more of them
abbrev pub most_records : ℕ
most_records = 4680

unfoldable pub accepted : Settings → ℕ → Verdict → Result Book Refusal
accepted s n (Ok tt) = Ok (record { settings = s; records = n })
accepted s n (Err e) = Err e

-- the book, n records behind and the walk ahead
unfoldable pub counted : List ℕ → ℕ → Walk → Result Book Refusal
counted f n (more at w) = counted f (suc n) w
counted f n (ended e) = accepted (settings_of f) n (after_end_record f e)
counted f n (stopped e) = Err e

unfoldable pub book_of : List ℕ → Result Book Refusal
book_of f =
    if_lt most_book_bytes (length f) (Err (refusal book_too_long))
    (if_b (book_identified f)
    (if_b (settings_ok f) (counted f 0 (walk_of f)) (Err (refusal_at bad_settings 5)))
    (Err (refusal not_a_book)))

-- the record at a place with its stretches: "Text follows, then note"
unfoldable pub entry_at : List ℕ → ℕ → Entry
entry_at f at =
    record {
      place = at;
      «record» = record_of (type_at f at) (body_at f at);
      text = record { place = at + 3 + fixed_of (type_at f at); length = text_length (type_at f at) (body_at f at) };
      note =
          record {
            place = at + 3 + fixed_of (type_at f at) + text_length (type_at f at) (body_at f at);
            length = note_length (type_at f at) (body_at f at);
          };
    }

-- the records of an accepted book, in the book's order
unfoldable pub places_of : List ℕ → List ℕ
places_of f = places_in (walk_of f)

unfoldable pub entries_of : List ℕ → List Entry
entries_of f = map (entry_at f) (places_of f)

-- the record at a number: "Calls on a book give these first, then .. 10"
unfoldable pub record_from : List ℕ → ℕ → Result Book Refusal → Result Entry Refusal
record_from f k (Ok b) =
    if_lt k b.records (Ok (entry_at f (get_or (places_of f) k 0))) (Err (refusal no_such_number))
record_from f k (Err e) = Err e

unfoldable pub record_answer : List ℕ → ℕ → Result Entry Refusal
record_answer f k = record_from f k (book_of f)

-- a record's text and note as stretches of the file; nothing where there is no such record
unfoldable pub record_text_in : List ℕ → Result Entry Refusal → List ℕ
record_text_in f (Ok e) = stretch_bytes f e.text
record_text_in f (Err r) = []

unfoldable pub record_note_in : List ℕ → Result Entry Refusal → List ℕ
record_note_in f (Ok e) = stretch_bytes f e.note
record_note_in f (Err r) = []
