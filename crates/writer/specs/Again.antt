-- A book as it is read to be written again, document 01: its records with their texts and notes, when it is plain, and what it reads as.
-- Assumes nothing.
use Rattle.std.specs.Prelude.{Ok, ℕ, ◌+◌, ◌<◌, ◌≡◌, true, List, [], ◌∷◌, map, length, get_or}
use Rattle.records.specs.Fields.{record_of, fixed_of, text_length, note_length, body_text, body_note}
use Rattle.records.specs.Encoding.{plain_state}
use Rattle.book.specs.Walk.{type_at, body_length_at, body_at}
use Rattle.book.specs.Fillers.{fillers_of}
use Rattle.book.specs.Books.{book_of, places_of, record_answer, record_text_in, record_note_in}
use Rattle.book.specs.declared.types.Settings.{Settings}
use Rattle.book.specs.declared.types.Entry.{Entry}
use Rattle.writer.specs.Runs.{Item}

-- the record at a place, with its text and its note
unfoldable pub item_at : List ℕ → ℕ → Item
item_at f at =
    record {
      kind = record_of (type_at f at) (body_at f at);
      text = body_text (type_at f at) (body_at f at);
      note = body_note (type_at f at) (body_at f at);
    }

-- the records of a book, in the book's order
unfoldable pub items_of : List ℕ → List Item
items_of f = map (item_at f) (places_of f)

-- "padding up to L, ignored and never written": there is none; "other bits are ignored when read and written as 0": none is set
pub record PlainAt (f : List ℕ) (at : ℕ) : Type 0 where
  pub tight : body_length_at f at ≡ fixed_of (type_at f at) + text_length (type_at f at) (body_at f at) + note_length (type_at f at) (body_at f at)
  pub named : plain_state (type_at f at) (body_at f at) ≡ true

-- what holds at each place of a list
abbrev pub Each : (ℕ → Type 0) → List ℕ → Type 0
Each P [] = Unit {0}
Each P (at ∷ places) = P at × Each P places

-- a book without padding and unnamed bits
pub record Plain (f : List ℕ) : Type 0 where
  pub each : Each (PlainAt f) (places_of f)
  -- bytes after the end record: "the same-bytes promise is for books with none" (R-1)
  pub no-fillers : fillers_of f ≡ 0

-- what is read at a number of a file is this item
pub record Reads (f : List ℕ) (k : ℕ) (i : Item) : Type 0 where
  pub entry : Entry
  pub found : record_answer f k ≡ Ok entry
  pub «record» : entry.«record» ≡ i.kind
  pub text : record_text_in f (record_answer f k) ≡ i.text
  pub note : record_note_in f (record_answer f k) ≡ i.note

-- a file reads as a book with these settings and items; an item is named by its number, and the other argument of get_or never counts
pub record ReadsAs (f : List ℕ) (s : Settings) (is : List Item) : Type 0 where
  pub book : book_of f ≡ Ok (record { settings = s; records = length is })
  pub items : (k : ℕ) (x : Item) → k < length is → Reads f k (get_or is k x)
  -- bytes after the end record: "Writing adds none" (R-1)
  pub none-added : fillers_of f ≡ 0
