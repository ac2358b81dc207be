-- Demand 3, stated: "Demand 3 compares, for each day of the span, two lists, which must be equally long and agree place by place".
-- What shows on a day is any test; document 01's own is `shows_under` a short-month choice. `Theorem` proves it.
-- Stated by the book, its pages, the Calendar reader and plain sums; of the export it names the answer alone, of the Calendar writer nothing.
-- Assumes nothing.
use Rattle.std.specs.Prelude.{Result, Ok, Err, ℕ, zero, suc, ◌+◌, ◌*◌, ◌/◌, ◌%◌, ◌<◌, ◌≤◌, ◌≡◌, Bool, List, [], ◌∷◌, map, eqb, length, take}
use Rattle.prelude.specs.Choice.{if_lt}
use Rattle.prelude.specs.Bytes.{stretch_bytes}
use Rattle.prelude.specs.Refusals.{no_room, too_many_blocks, refusal}
use Rattle.sorting.specs.Totals.{total}
use Rattle.days.specs.Days.{last_day}
use Rattle.book.specs.Books.{book_of}
use Rattle.book.specs.declared.types.Book.{Book}
use Rattle.pages.specs.Pages.{Numbered, record_times, start_of, page_of}
use Rattle.calendar.specs.File.{Appointment}
use Rattle.calendar.specs.Reader.{count_of, calendar_of}
use Rattle.calendar.specs.Shown.{appointments_on}
use Rattle.prelude.specs.declared.refusals.Refusal.{Refusal}

-- what the two lists hold
pub record Showing : Type 0 where
  pub minute : ℕ
  pub alarm : Bool
  pub text : List ℕ

-- "start minute, state bit 0 and text of each record that falls on it"
abbrev pub listed : List ℕ → Numbered → Showing
listed book x = record { minute = start_of x; alarm = (record_times x).alarm; text = stretch_bytes book x.entry.text }

-- the first list of a day, "in page order"
abbrev pub day_list : (ℕ → Numbered → Bool) → List ℕ → ℕ → List Showing
day_list shows book d = map (listed book) (page_of (shows d) book)

-- "minute, flag 1 and text of the day's appointments in the written file"
abbrev pub shown : Appointment → Showing
shown a = record { minute = a.minute; alarm = eqb (a.flags % 2) 1; text = a.text }

-- a Calendar file shows count days from the first on as the book's pages list them
pub record SameDays (shows : ℕ → Numbered → Bool) (book : List ℕ) (first count : ℕ) (file : List ℕ) : Type 0 where
  -- the Calendar reader accepts it
  pub accepted : calendar_of file ≡ Ok (count_of file)
  -- each day of the span shows its page
  pub inside : (d : ℕ) → first ≤ d → d < first + count → map shown (appointments_on file d) ≡ day_list shows book d
  -- any other day shows nothing
  pub before : (d : ℕ) → d < first → appointments_on file d ≡ []
  pub after : (d : ℕ) → first + count ≤ d → appointments_on file d ≡ []

-- "a count of days, 0 to 366"
abbrev pub longest_span : ℕ
longest_span = 366

-- the last block that a day's block may start at
abbrev pub last_start : ℕ
last_start = 32767

-- the units of 64 bytes that hold n bytes: "filled to a multiple of 64"
abbrev pub in_units : ℕ → ℕ
in_units n = (n + 63) / 64

-- "One descriptor for each day with appointments, rising": of count days from the first on those that list something
unfoldable pub busy_days : (ℕ → List Showing) → ℕ → ℕ → List ℕ
busy_days list first zero = []
busy_days list first (suc count) =
    if_lt 0 (length (list first)) (first ∷ busy_days list (suc first) count) (busy_days list (suc first) count)

-- a day's block: five words, then of each appointment "size byte, flags .., minute, text, zero byte"
abbrev pub block_units : List Showing → ℕ
block_units xs = in_units (10 + total (λ x. 5 + length x.text) xs)

-- "Descriptors from byte 64, 12 bytes each"; blocks start "from the first multiple of 64 at or after the table's end"
abbrev pub first_start : ℕ → ℕ
first_start descriptors = in_units (64 + 12 * descriptors)

-- "Blocks follow in the same order": where the next one starts when k days of the span lie behind
abbrev pub block_start : (ℕ → List Showing) → ℕ → ℕ → ℕ → ℕ
block_start list first count k =
    first_start (length (busy_days list first count)) + total (λ d. block_units (list d)) (busy_days list first k)

-- the file's length: it ends where one more block would start
abbrev pub file_size : (ℕ → List Showing) → ℕ → ℕ → ℕ
file_size list first count = 64 * block_start list first count count

-- "a day's block would start at block 32,768 or later": that of the day which has k days of the span before it
pub record StartsLate (list : ℕ → List Showing) (first count k : ℕ) : Type 0 where
  pub inside : k < count
  pub busy : 0 < length (list (first + k))
  pub late : last_start < block_start list first count k

-- "Its sizes are those of 12 and 13": what is answered where a span whose days have these lists is to be written to a buffer of that room
pub record Sizes (list : ℕ → List Showing) (first count room : ℕ) (answer : Result ℕ Refusal) : Type 0 where
  -- 13 where a day's block would start too late
  pub thirteen : (k : ℕ) → StartsLate list first count k → answer ≡ Err (refusal too_many_blocks)
  -- else 12 where the buffer is shorter than the file
  pub twelve : ((k : ℕ) → StartsLate list first count k → ⊥) → room < file_size list first count → answer ≡ Err (refusal no_room)
  -- else the file is written
  pub written : ((k : ℕ) → StartsLate list first count k → ⊥) → file_size list first count ≤ room → answer ≡ Ok (file_size list first count)

-- Demand 3 of an export that found a buffer `out`, gave `answer` and left the buffer as `left`.
pub record Demand3 (shows : ℕ → Numbered → Bool) (book : List ℕ) (first count : ℕ) (out : List ℕ) (answer : Result ℕ Refusal) (left : List ℕ) : Type 0 where
  -- An accepted book and a span in range are refused exactly where one of the two sizes is passed: "a first day, a Calendar day even
  -- when the count is 0, and a count of days, 0 to 366, with first + count at most 43,830".
  pub sizes :
      (b : Book) → book_of book ≡ Ok b → first ≤ last_day → count ≤ longest_span → first + count ≤ last_day + 1
      → Sizes (day_list shows book) first count (length out) answer
  -- The bytes that were written are a Calendar file that is accepted and shows the days of the span as the pages list them, and no others.
  pub same : (n : ℕ) → answer ≡ Ok n → SameDays shows book first count (take n left)
