-- What each question about a book and a day gives, document 01 "Order": the book's refusals first, then 11, then 10.
-- Assumes nothing.
use Rattle.std.specs.Prelude.{Result, Ok, Err, ℕ, Bool, List, [], length}
use Rattle.prelude.specs.Choice.{if_lt}
use Rattle.prelude.specs.Bytes.{stretch_bytes}
use Rattle.prelude.specs.Refusals.{out_of_range, no_such_number, refusal}
use Rattle.days.specs.Days.{last_day}
use Rattle.days.specs.Facts.{facts_of}
use Rattle.days.specs.declared.types.CalendarDay.{CalendarDay}
use Rattle.days.specs.declared.types.DayFacts.{DayFacts}
use Rattle.book.specs.Books.{book_of}
use Rattle.falls.specs.Moved.{falling}
use Rattle.falls.specs.declared.types.ShortMonth.{ShortMonth}
use Rattle.pages.specs.Pages.{Numbered, numbered, page_of, page_line_of, nth}
use Rattle.pages.specs.Next.{next_of}
use Rattle.prelude.specs.declared.refusals.Refusal.{Refusal}
use Rattle.book.specs.declared.types.Book.{Book}
use Rattle.pages.specs.declared.types.Ready.{Ready}
use Rattle.falls.specs.declared.types.Falling.{Falling}
use Rattle.pages.specs.declared.types.Line.{Line}
use Rattle.pages.specs.declared.types.Search.{Search}

-- "Calls on a book give these first, then 11"
unfoldable pub validated_day : CalendarDay → Result Book Refusal → Result Ready Refusal
validated_day n (Ok b) =
    if_lt last_day n.0 (Err (refusal out_of_range)) (Ok (record { records = b.records; facts = facts_of n.0 }))
validated_day n (Err e) = Err e

-- the same of a file
unfoldable pub validated : List ℕ → CalendarDay → Result Ready Refusal
validated f n = validated_day n (book_of f)

-- document 02, R-7: does the record of a number fall on the day: "no, on its own day, or moved"
unfoldable pub falls_in : List ℕ → ShortMonth → ℕ → Result Ready Refusal → Result Falling Refusal
falls_in f c k (Ok a) =
    nth (numbered f) k (Err (refusal no_such_number)) (λ x. Ok (falling c a.facts x.entry.«record»))
falls_in f c k (Err e) = Err e

-- the same of a file and a day
abbrev pub record_falls : List ℕ → ShortMonth → CalendarDay → ℕ → Result Falling Refusal
record_falls f c n k = falls_in f c k (validated f n)

-- What shows on a day is left open from here on: `shows d x` says whether the record x shows on the day whose facts are d.
-- Document 01's own test is `falls_on` a short-month choice.

-- "It gives its number of lines"
unfoldable pub page_count_in : (DayFacts → Numbered → Bool) → List ℕ → Result Ready Refusal → Result ℕ Refusal
page_count_in shows f (Ok a) = Ok (length (page_of (shows a.facts) f))
page_count_in shows f (Err e) = Err e

-- the same of a file and a day
abbrev pub page_count : (DayFacts → Numbered → Bool) → List ℕ → CalendarDay → Result ℕ Refusal
page_count shows f n = page_count_in shows f (validated f n)

-- "and the line at a place"
unfoldable pub page_line_in : (DayFacts → Numbered → Bool) → List ℕ → ℕ → Result Ready Refusal → Result Line Refusal
page_line_in shows f k (Ok a) =
    nth (page_of (shows a.facts) f) k (Err (refusal no_such_number)) (λ x. Ok (page_line_of a.facts x))
page_line_in shows f k (Err e) = Err e

-- the same of a file and a day
abbrev pub page_line_at : (DayFacts → Numbered → Bool) → List ℕ → CalendarDay → ℕ → Result Line Refusal
page_line_at shows f n k = page_line_in shows f k (validated f n)

-- the text of a line as that stretch of the file; nothing where there is no such line
unfoldable pub line_text : List ℕ → Result Line Refusal → List ℕ
line_text f (Ok l) = stretch_bytes f l.text
line_text f (Err e) = []

-- "Next occurrence, asked for a record and a day"
unfoldable pub next_in : (DayFacts → Numbered → Bool) → List ℕ → ℕ → Result Ready Refusal → Result Search Refusal
next_in shows f k (Ok a) =
    nth (numbered f) k (Err (refusal no_such_number)) (λ x. Ok (next_of (λ d. shows (facts_of d) x) a.facts.day.0))
next_in shows f k (Err e) = Err e

-- the same of a file and a day
abbrev pub next_occurrence : (DayFacts → Numbered → Bool) → List ℕ → CalendarDay → ℕ → Result Search Refusal
next_occurrence shows f n k = next_in shows f k (validated f n)
