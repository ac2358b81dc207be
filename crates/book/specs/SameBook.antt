-- One book in two files, stated: what every call on a book goes by is the same in both. `Laws.SameBook` proves it of a book with and without fillers.
-- Assumes nothing.
use Rattle.std.specs.Prelude.{ℕ, ◌≡◌}
use mathlib.Core.List.{List, Memᴰ}
use Rattle.prelude.specs.Bytes.{stretch_bytes}
use Rattle.book.specs.Settings.{settings_of}
use Rattle.book.specs.Books.{book_of, entry_at, places_of}
use Rattle.book.specs.declared.types.Entry.{Entry}

-- a record's text and note have the same bytes in both files
pub record SameTexts (f g : List ℕ) (e : Entry) : Type 0 where
  pub text : stretch_bytes g e.text ≡ stretch_bytes f e.text
  pub note : stretch_bytes g e.note ≡ stretch_bytes f e.note

-- both files are read as the same book
pub record SameBook (f g : List ℕ) : Type 0 where
  pub book : book_of g ≡ book_of f
  pub settings : settings_of g ≡ settings_of f
  pub places : places_of g ≡ places_of f
  pub entry : (at : ℕ) → Memᴰ at (places_of f) → entry_at g at ≡ entry_at f at
  pub texts : (at : ℕ) → Memᴰ at (places_of f) → SameTexts f g (entry_at f at)
