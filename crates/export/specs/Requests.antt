-- What an export of a span starts from: a book and a first day that were tested, and working space.
-- Assumes nothing.
use Rattle.std.specs.Prelude.{Ok, ℕ, ◌+◌, ◌≤◌, ◌≡◌, List, length}
use Rattle.days.specs.Days.{last_day}
use Rattle.days.specs.Facts.{facts_of}
use Rattle.book.specs.Books.{book_of}
use Rattle.calendar_writer.specs.DayLists.{most_days}
use Rattle.export.specs.Passes.{AtMost}
use Rattle.export.specs.declared.requests.Request.{Request}

-- an accepted book and count days from the first on, in range
pub record ValidRequest (f : List ℕ) (q : Request) (count : ℕ) : Type 0 where
  pub book : book_of f ≡ Ok q.book
  pub facts : q.first ≡ facts_of q.first.day.0
  pub end : q.first.day.0 + count ≤ last_day + 1
  pub most : count ≤ most_days

-- lists for that many days, the sums 0, and room for all records
pub record Space (records : ℕ) (days sums places codes spare : List ℕ) : Type 0 where
  pub each-sum : length sums ≡ length days
  pub clear : AtMost 0 sums
  pub each-place : length places ≡ length days
  pub all_codes : records ≤ length codes
  pub all-spare : length codes ≤ length spare
