-- What an accepted book is, and what stands at the place of one of its records.
-- Assumes nothing.
use Rattle.std.specs.Prelude.{Ok, ℕ, ◌+◌, ◌≤◌, ◌≡◌, List, length, true}
use Rattle.records.specs.Bodies.{judge_body}
use Rattle.book.specs.Walk.{type_at, body_length_at, body_at}
use Rattle.book.specs.Settings.{book_identified, settings_of, settings_ok, first_record}
use Rattle.book.specs.Books.{places_of, most_book_bytes}
use Rattle.book.specs.declared.types.Book.{Book}

-- what a step to a next record says
pub record RecordAt (f : List ℕ) (at : ℕ) : Type 0 where
  pub low : 1 ≤ type_at f at
  pub high : type_at f at ≤ 6
  pub body : at + 3 + body_length_at f at ≤ length f
  pub fine : judge_body (type_at f at) (body_at f at) ≡ Ok tt

-- what an accepted book is
pub record AcceptedBook (f : List ℕ) (b : Book) : Type 0 where
  pub size : length f ≤ most_book_bytes
  pub named : book_identified f ≡ true
  pub long : first_record ≤ length f
  pub set : settings_ok f ≡ true
  pub settings : b.settings ≡ settings_of f
  pub count : b.records ≡ length (places_of f)
