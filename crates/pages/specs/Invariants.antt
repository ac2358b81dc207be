-- What an accepted question knows of the book and the day, and the record at a place.
-- Assumes nothing.
use Rattle.std.specs.Prelude.{ℕ, ◌≤◌, ◌≡◌, List, length}
use Rattle.days.specs.Days.{last_day}
use Rattle.days.specs.Facts.{facts_of}
use Rattle.book.specs.Books.{entry_at, places_of, most_book_bytes}
use Rattle.book.specs.Settings.{first_record}
use Rattle.pages.specs.Pages.{Numbered}
use Rattle.pages.specs.declared.types.Ready.{Ready}

-- what an accepted question knows of the book and the day
pub record ReadyBook (f : List ℕ) (a : Ready) : Type 0 where
  pub size : length f ≤ most_book_bytes
  pub long : first_record ≤ length f
  pub count : a.records ≡ length (places_of f)
  pub day : a.facts.day.0 ≤ last_day
  pub facts : a.facts ≡ facts_of a.facts.day.0

-- the record at a place, with its number
abbrev pub record_at : List ℕ → ℕ → ℕ → Numbered
record_at f n at = record { number = n; entry = entry_at f at }
