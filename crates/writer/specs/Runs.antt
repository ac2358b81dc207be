-- A whole run of writing: open, the adds, close, each on the handed-back state and the same buffer, untouched between the calls.
-- Assumes nothing.
use Rattle.std.specs.Prelude.{Err, Result, Ok, ℕ, ◌≤◌, ◌≡◌, true, false, List, [], ◌∷◌, ◌++◌, length, take}
use Rattle.prelude.specs.Splice.{splice}
use Rattle.prelude.specs.declared.refusals.Refusal.{Refusal}
use Rattle.texts.specs.Notes.{no_zero, note_ok, most_text}
use Rattle.records.specs.Ranges.{record_ok}
use Rattle.records.specs.Encoding.{encode}
use Rattle.records.specs.declared.types.Record.{Record}
use Rattle.book.specs.Settings.{settings_in_range}
use Rattle.book.specs.declared.types.Settings.{Settings}
use Rattle.book.specs.Books.{most_book_bytes}
use Rattle.writer.specs.Writing.{open_bytes, end_bytes, open_gives, open_leaves, add_gives, add_leaves, close_gives, close_leaves}
use Rattle.writer.specs.declared.types.Writer.{Writer}
use Rattle.writer.specs.declared.types.WriteRefusal.{WriteRefusal}

-- what is added: a record with its text and its note
pub record Item : Type 0 where
  pub kind : Record
  pub text : List ℕ
  pub note : List ℕ

-- a run that was not refused: the state and the buffer in the end
pub data Run : Type 0 where
  done : Writer → List ℕ → Run
  refused : Refusal → Run

-- after a call: on with the state that it gave and the buffer that it left
abbrev pub after_call : Result Writer WriteRefusal → List ℕ → (Writer → List ℕ → Run) → Run
after_call (Ok w) b next = next w b
after_call (Err e) b next = refused e.refusal

unfoldable pub finish : Writer → List ℕ → Run
finish w b = after_call (close_gives w (length b)) (close_leaves w b) (λ w' b'. done w' b')

unfoldable pub adds : List Item → Writer → List ℕ → Run
adds [] w b = finish w b
adds (i ∷ is) w b =
    after_call (add_gives w (length b) i.kind i.text i.note) (add_leaves w b i.kind i.text i.note) (λ w' b'. adds is w' b')

unfoldable pub writing : Settings → List Item → List ℕ → Run
writing s is b = after_call (open_gives s (length b)) (open_leaves s b) (λ w' b'. adds is w' b')

-- the state of a book that is being written, so many bytes used
abbrev pub opened : ℕ → Writer
opened n = record { used = n; closed = false }

-- the state of a closed book, so many bytes used
abbrev pub closed_at : ℕ → Writer
closed_at n = record { used = n; closed = true }

-- an item as it is written
abbrev pub item_bytes : Item → List ℕ
item_bytes i = encode i.kind i.text i.note

-- the bytes of a book with these settings and records
unfoldable pub record_bytes : List Item → List ℕ
record_bytes [] = []
record_bytes (i ∷ is) = item_bytes i ++ record_bytes is

-- from the first record on
abbrev pub rest_bytes : List Item → List ℕ
rest_bytes is = record_bytes is ++ end_bytes

unfoldable pub book_bytes : Settings → List Item → List ℕ
book_bytes s is = open_bytes s ++ rest_bytes is

-- an item without a fault
pub record Fine (i : Item) : Type 0 where
  pub short : length i.text ≤ most_text
  pub ranged : record_ok i.kind ≡ true
  pub clean : no_zero i.text ≡ true
  pub ruled : note_ok i.note ≡ true

abbrev pub Items : List Item → Type 0
Items [] = Unit {0}
Items (i ∷ is) = Fine i × Items is

-- what a run that was not refused is
pub record Written (s : Settings) (is : List Item) (b : List ℕ) (w : Writer) (b' : List ℕ) : Type 0 where
  pub settings : settings_in_range s ≡ true
  pub items : Items is
  pub state : w ≡ closed_at (length (book_bytes s is))
  pub buffer : b' ≡ splice b 0 (book_bytes s is)
  pub book : take w.used b' ≡ book_bytes s is
  pub room : length (book_bytes s is) ≤ length b
  pub size : length (book_bytes s is) ≤ most_book_bytes
