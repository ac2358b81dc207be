-- What the passes over a book know of a record: on which days of a span it shows, its weight, and a day's appointments so far.
-- A marking is any test `mark k x`: the record x shows on the k-th day of the span.
-- Assumes nothing.
use Rattle.std.specs.Prelude.{ℕ, zero, suc, ◌+◌, ◌*◌, ◌<◌, ◌≤◌, ◌≡◌, Bool, true, false, List, map, length, get_or, take}
use Rattle.prelude.specs.Choice.{if_b}
use Rattle.sorting.specs.Keep.{keep}
use Rattle.sorting.specs.Totals.{total}
use Rattle.texts.specs.Notes.{most_text}
use Rattle.records.specs.Ranges.{record_ok}
use Rattle.book.specs.Books.{places_of, entry_at, most_book_bytes, most_records}
use Rattle.book.specs.Settings.{first_record}
use Rattle.falls.specs.declared.types.ShortMonth.{ShortMonth}
use Rattle.occurrences.specs.Rules.{rule_of, rule_shows}
use Rattle.pages.specs.Pages.{Numbered, numbered, record_times}
use Rattle.pages.specs.Codes.{decode}
use Rattle.calendar.specs.File.{Appointment}
use Rattle.calendar_writer.specs.Sums.{weight_of, most_weight}
use Rattle.export.specs.Export.{appointment_of}

-- no number of a list is above n
pub record AtMost (n : ℕ) (xs : List ℕ) : Type 0 where
  pub each : (k : ℕ) → k < length xs → get_or xs k 0 ≤ n

-- whether one of the first n days passes
unfoldable pub some_day : (ℕ → Bool) → ℕ → Bool
some_day p zero = false
some_day p (suc n) = if_b (p n) true (some_day p n)

-- an accepted book with its number of records
pub record CountedBook (f : List ℕ) (records : ℕ) : Type 0 where
  pub size : length f ≤ most_book_bytes
  pub long : first_record ≤ length f
  pub count : records ≡ length (places_of f)

-- a record at a place of an accepted book
pub record Sound (f : List ℕ) (at : ℕ) : Type 0 where
  pub place : at ≤ most_book_bytes
  pub fine : record_ok (entry_at f at).«record» ≡ true
  pub text : (entry_at f at).text.place + (entry_at f at).text.length ≤ length f
  pub short : (entry_at f at).text.length ≤ most_text

-- the marking by rules: a record's rule shows on the k-th day of a span, whose days are given as codes
abbrev pub marked : ShortMonth → List ℕ → ℕ → Numbered → Bool
marked c days k x = rule_shows c (rule_of x.entry.«record») (get_or days k 0)

-- a record is marked on one of the first n days
abbrev pub kept_in : (ℕ → Numbered → Bool) → ℕ → Numbered → Bool
kept_in mark n x = some_day (λ k. mark k x) n

-- a record's appointment as a sum
abbrev pub weighs : Numbered → ℕ
weighs x = weight_of (record_times x).alarm x.entry.text.length

-- no day's sum is above that of all records of the longest book
abbrev pub most_sum : ℕ
most_sum = most_records * most_weight

-- the sums of a span's days: of each the records that are marked on it
pub record Weighed (f : List ℕ) (mark : ℕ → Numbered → Bool) (days sums : List ℕ) : Type 0 where
  pub long : length sums ≡ length days
  pub each : (k : ℕ) → k < length days → get_or sums k 0 ≡ total weighs (keep (mark k) (numbered f))

-- the appointments of the k-th day among the first n codes
unfoldable pub so_far : List ℕ → ℕ → (ℕ → Numbered → Bool) → List ℕ → ℕ → ℕ → List Appointment
so_far f interval mark codes n k = map (appointment_of f interval) (keep (mark k) (map (decode f) (take n codes)))
