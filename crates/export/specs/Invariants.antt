-- What the export knows of an accepted book: what it takes of each record; and of a book collected and ordered, ready to be filled in.
-- Assumes nothing.
use Rattle.std.specs.Prelude.{ℕ, ◌+◌, ◌<◌, ◌≤◌, ◌≡◌, Bool, true, length}
use mathlib.Core.List.{List, Memᴰ, map}
use Rattle.sorting.specs.Totals.{total}
use Rattle.sorting.specs.Keep.{keep}
use Rattle.days.specs.Days.{last_minute}
use Rattle.day_steps.specs.Codes.{Spanned}
use Rattle.texts.specs.Notes.{no_zero, most_text}
use Rattle.pages.specs.Pages.{Numbered, numbered, start_of, page_of}
use Rattle.pages.specs.Codes.{code}
use Rattle.export.specs.Export.{record_text}
use Rattle.export.specs.Passes.{CountedBook, kept_in, Weighed}

-- what the export takes of a record
pub record GoodRecord (f : List ℕ) (x : Numbered) : Type 0 where
  pub minute : start_of x ≤ last_minute
  pub short : length (record_text f x) ≤ most_text
  pub clean : no_zero (record_text f x) ≡ true

-- the bytes of a record as an appointment
abbrev pub size_of : List ℕ → Numbered → ℕ
size_of f x = 5 + length (record_text f x)

-- the records of an accepted book
pub record GoodBook (f : List ℕ) : Type 0 where
  pub each : (x : Numbered) → Memᴰ x (numbered f) → GoodRecord f x
  pub sum : total (size_of f) (numbered f) ≤ 65535

-- the book's records are marked on a day of a span, from day first on, just when they show on it
pub record MarksShown (f : List ℕ) (shows : ℕ → Numbered → Bool) (first : ℕ) (mark : ℕ → Numbered → Bool) (days : List ℕ) : Type 0 where
  pub each : (k : ℕ) → k < length days → (x : Numbered) → Memᴰ x (numbered f) → mark k x ≡ shows (first + k) x

-- the sums of a span and, in page order, the records that show on one of its days
pub record ReadyToFill (f : List ℕ) (shows : ℕ → Numbered → Bool) (first : ℕ) (mark : ℕ → Numbered → Bool) (days sums codes : List ℕ) : Type 0 where
  pub records : ℕ
  pub counted : CountedBook f records
  pub good : GoodBook f
  pub span : Spanned first days
  pub marks : MarksShown f shows first mark days
  pub weighed : Weighed f mark days sums
  pub kept : codes ≡ map code (page_of (kept_in mark (length days)) f)

-- the same before the records are ordered
pub record Gathered (f : List ℕ) (shows : ℕ → Numbered → Bool) (first : ℕ) (mark : ℕ → Numbered → Bool) (days sums codes : List ℕ) : Type 0 where
  pub records : ℕ
  pub counted : CountedBook f records
  pub good : GoodBook f
  pub span : Spanned first days
  pub marks : MarksShown f shows first mark days
  pub weighed : Weighed f mark days sums
  pub kept : codes ≡ map code (keep (kept_in mark (length days)) (numbered f))
