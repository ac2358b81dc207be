-- Request R-5: "find the month in the table by halving, and show that eleven halvings, each keeping the part that holds the day, always leave one month".
-- Stated here, proved in `Laws.Halving` (`eleven_halvings`).
-- Assumes nothing.
use Rattle.std.specs.Prelude.{ℕ, zero, suc, ◌+◌, ◌-◌, ◌/◌, ◌<◌, ◌≤◌, ◌≡◌, List}
use Rattle.prelude.specs.Choice.{if_lt}
use Rattle.days.specs.Days.{last_day, month_start}
use Rattle.days.specs.Table.{StartsFrom, InMonth}

-- a part of the table: count months from month first on
pub record Part : Type 0 where
  pub first : ℕ
  pub count : ℕ

abbrev pub whole_table : Part
whole_table = record { first = 0; count = 1440 }

-- its two halves, of the same size: where count is odd both have the month in the middle
abbrev pub lower : Part → Part
lower p = record { first = p.first; count = p.count - p.count / 2 }

abbrev pub upper : Part → Part
upper p = record { first = p.first + p.count / 2; count = p.count - p.count / 2 }

-- a halving: the lower half where day n comes before the upper half, else the upper half
unfoldable pub halve : ℕ → Part → Part
halve n p = if_lt n (month_start (upper p).first) (lower p) (upper p)

-- what k halvings of the table leave for day n
unfoldable pub halved : ℕ → ℕ → Part
halved zero n = whole_table
halved (suc k) n = halve n (halved k n)

-- "the part that holds the day"
pub record Holds (n : ℕ) (p : Part) : Type 0 where
  pub some : 0 < p.count
  pub within : p.first + p.count ≤ 1440
  pub from : month_start p.first ≤ n
  pub until : n < month_start (p.first + p.count)

-- "eleven halvings, each keeping the part that holds the day, always leave one month"
pub record ElevenHalvings (n : ℕ) : Type 0 where
  pub each : (k : ℕ) → Holds n (halved k n)
  pub one : (halved 11 n).count ≡ 1
  pub inside : InMonth n (halved 11 n).first

-- What the search gives for day n: the month that they leave, and its start.
pub record Found (n number start : ℕ) : Type 0 where
  pub halvings : ElevenHalvings n
  pub month : number ≡ (halved 11 n).first
  pub starts : start ≡ month_start number

-- On the way there: k halvings for day n have left count months from month first on.
pub record Narrowed (n k first count : ℕ) : Type 0 where
  pub day : n ≤ last_day
  pub part : halved k n ≡ record { first = first; count = count }
  pub holds : Holds n (record { first = first; count = count })

-- Five have left the 45 months whose starts are listed.
pub record NarrowedByFive (n first : ℕ) (s : List ℕ) : Type 0 where
  pub part : Narrowed n 5 first 45
  pub starts : StartsFrom first 45 s
