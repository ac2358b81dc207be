-- A day page, document 01 "When a record falls on a day".
-- Assumes nothing.
use Rattle.std.specs.Prelude.{ℕ, zero, suc, Bool, List, [], ◌∷◌}
use Rattle.sorting.specs.Keep.{keep}
use Rattle.sorting.specs.Order.{sort}
use Rattle.days.specs.declared.types.DayFacts.{DayFacts}
use Rattle.book.specs.Books.{entries_of}
use Rattle.book.specs.declared.types.Entry.{Entry}
use Rattle.falls.specs.Falls.{falls}
use Rattle.falls.specs.Moved.{day_missing}
use Rattle.falls.specs.Times.{times_of}
use Rattle.falls.specs.declared.types.ShortMonth.{ShortMonth}
use Rattle.falls.specs.declared.types.Times.{Times}
use Rattle.pages.specs.declared.types.Line.{Line}

-- a record with its number, its place in the book: "records .. count from 0"
pub record Numbered : Type 0 where
  pub number : ℕ
  pub entry : Entry

unfoldable pub numbered_from : ℕ → List Entry → List Numbered
numbered_from n [] = []
numbered_from n (e ∷ es) = record { number = n; entry = e } ∷ numbered_from (suc n) es

-- the records of an accepted book
unfoldable pub numbered : List ℕ → List Numbered
numbered f = numbered_from 0 (entries_of f)

abbrev pub record_times : Numbered → Times
record_times x = times_of x.entry.«record»

abbrev pub start_of : Numbered → ℕ
start_of x = (record_times x).start.0

-- "A day page lists the records that fall on it by start minute, then by place in the book": for any test
unfoldable pub page_of : (Numbered → Bool) → List ℕ → List Numbered
page_of p f = sort start_of (keep p (numbered f))

-- the page of a day whose facts are d
abbrev pub falls_on : ShortMonth → DayFacts → Numbered → Bool
falls_on c d x = falls c d x.entry.«record»

abbrev pub page_on : ShortMonth → DayFacts → List ℕ → List Numbered
page_on c d f = page_of (falls_on c d) f

-- a line of the page of the day whose facts are d: record number, start, end, alarm, moved (document 02, R-7), and the text's stretch.
-- Its record falls on that day, so it was moved just where its own day is missing from the month (`line_falling`).
unfoldable pub page_line_of : DayFacts → Numbered → Line
page_line_of d x =
    record {
      number = x.number;
      start = (record_times x).start;
      end = (record_times x).end;
      alarm = (record_times x).alarm;
      moved = day_missing d x.entry.«record»;
      text = x.entry.text;
    }

-- "the line at a place": what some gives of the element at a number, or none where there is none of that number
unfoldable pub nth : {A X : Type 0} → List A → ℕ → X → (A → X) → X
nth [] k none some = none
nth (x ∷ xs) zero none some = some x
nth (x ∷ xs) (suc k) none some = nth xs k none some
