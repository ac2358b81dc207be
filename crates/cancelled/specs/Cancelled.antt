-- The list of cancelled days that a caller lends beside a book: document 02, R-9.
-- Assumes nothing.
use Rattle.std.specs.Prelude.{Result, Ok, Err, ℕ, suc, ◌+◌, ◌-◌, ◌*◌, ◌/◌, ◌%◌, Bool, true, false, List, [], ◌∷◌, length, get_or, take}
use Rattle.prelude.specs.Choice.{if_lt, if_eq, if_b}
use Rattle.prelude.specs.Refusals.{bad_cancelled}
use Rattle.prelude.specs.Verdicts.{unless_bad, in_turn}
use Rattle.days.specs.Days.{last_day}
use Rattle.days.specs.Facts.{facts_of}
use Rattle.records.specs.declared.types.Record.{Record}
use Rattle.book.specs.Books.{book_of, entry_at, places_of}
use Rattle.falls.specs.Falls.{falls}
use Rattle.falls.specs.declared.types.ShortMonth.{ShortMonth}
use Rattle.prelude.specs.declared.refusals.Refusal.{Refusal}
use Rattle.book.specs.declared.types.Book.{Book}
use Rattle.prelude.specs.Verdicts.{Verdict}

-- An entry, "the number of a record .. and a day", is one number; "rising by number and then day" is then rising (`code_rises`).
abbrev pub cancelled_code : ℕ → ℕ → ℕ
cancelled_code number day = number * 65536 + day

abbrev pub cancelled_number : ℕ → ℕ
cancelled_number e = e / 65536

abbrev pub cancelled_day : ℕ → ℕ
cancelled_day e = e % 65536

-- "strictly rising by number and then day": above the entry before it, where there is one
unfoldable pub rises_at : List ℕ → ℕ → Bool
rises_at list i = if_eq i 0 true (if_lt (get_or list (i - 1) 0) (get_or list i 0) true false)

-- "a record of type 2 to 5"
unfoldable pub is_repeated : Record → Bool
is_repeated (Record.Dated d) = false
is_repeated (Record.Weekly w) = true
is_repeated (Record.MonthlyByDate m) = true
is_repeated (Record.MonthlyByPosition m) = true
is_repeated (Record.Yearly y) = true
is_repeated (Record.ToDo t) = false

-- "a day on which that record falls under "last", whatever choice is asked later"
unfoldable pub may_cancel : Record → ℕ → Bool
may_cancel r day = if_lt last_day day false (if_b (is_repeated r) (falls ShortMonth.Last (facts_of day) r) false)

-- of the record of the entry's number, where there is one
unfoldable pub names_sitting : List ℕ → ℕ → Bool
names_sitting f e =
    if_lt (cancelled_number e) (length (places_of f)) (may_cancel (entry_at f (get_or (places_of f) (cancelled_number e) 0)).«record» (cancelled_day e)) false

-- how many entries of a list are of the record of a number
unfoldable pub count_for : ℕ → List ℕ → ℕ
count_for number [] = 0
count_for number (e ∷ es) = if_eq (cancelled_number e) number (suc (count_for number es)) (count_for number es)

-- "at most 16 a record"
abbrev pub most_cancelled : ℕ
most_cancelled = 16

-- "a record's seventeenth": 16 entries before it are of its record, or more
unfoldable pub is_beyond : List ℕ → ℕ → Bool
is_beyond list i = if_lt (count_for (cancelled_number (get_or list i 0)) (take i list)) most_cancelled false true

-- "43, the first list entry that breaks these rules or is a record's seventeenth, with its number"
unfoldable pub entry_bad : List ℕ → List ℕ → ℕ → Bool
entry_bad f list i = if_b (rises_at list i) (if_b (names_sitting f (get_or list i 0)) (is_beyond list i) true) true

unfoldable pub entry_verdict : List ℕ → List ℕ → ℕ → Verdict
entry_verdict f list i = unless_bad (entry_bad f list i) bad_cancelled i

unfoldable pub list_verdict : List ℕ → List ℕ → Verdict
list_verdict f list = in_turn (entry_verdict f list) (length list) 0

-- "straight after that book's own refusals"
unfoldable pub with_verdict : Result Book Refusal → Verdict → Result Book Refusal
with_verdict b (Ok tt) = b
with_verdict b (Err e) = Err e

unfoldable pub after_book : List ℕ → List ℕ → Result Book Refusal → Result Book Refusal
after_book f list (Ok b) = with_verdict (Ok b) (list_verdict f list)
after_book f list (Err e) = Err e

-- a book with its list
unfoldable pub book_with : List ℕ → List ℕ → Result Book Refusal
book_with f list = after_book f list (book_of f)
