-- What the table of month starts has to hold, and what finding a month in it means.
-- Assumes nothing.
use Rattle.std.specs.Prelude.{ℕ, suc, ◌+◌, ◌<◌, ◌≤◌, ◌≡◌, List, length, get_or}
use Rattle.days.specs.Days.{month_start}

-- a list of the 1,440 month starts
pub record Starts (t : List ℕ) : Type 0 where
  pub long : length t ≡ 1440
  pub start : (k : ℕ) → k < 1440 → get_or t k 0 ≡ month_start k

-- a list that begins with the starts of count months, from month first on
pub record StartsFrom (first count : ℕ) (s : List ℕ) : Type 0 where
  pub start : (k : ℕ) → k < count → get_or s k 0 ≡ month_start (first + k)

-- day n lies in month i
pub record InMonth (n i : ℕ) : Type 0 where
  pub within : i < 1440
  pub from : month_start i ≤ n
  pub until : n < month_start (suc i)
