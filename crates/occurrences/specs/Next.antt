-- The next of the numbers below an end that passes a test, and the next day of a list from a date on.
-- Assumes nothing.
use Rattle.std.specs.Prelude.{Option, Some, None, ◌≡◌, ℕ, ◌+◌, ◌-◌, ◌<◌, ◌≤◌, Bool, true, false, List, length, slice_index}
use Rattle.days.specs.Days.{last_day}
use Rattle.days.specs.declared.types.CalendarDay.{CalendarDay}
use Rattle.day_steps.specs.Codes.{date_in}

-- n is the first from `from` on that passes, or the end where none below it does
pub record Next (p : ℕ → Bool) (from end n : ℕ) : Type 0 where
  pub low : from ≤ n + (from - end)
  pub high : n ≤ end
  pub none : (k : ℕ) → from ≤ k → k < n → p k ≡ false
  pub hit : n < end → p n ≡ true

-- the first day from `from` on that passes, or none up to the last day
abbrev pub NextDay : (ℕ → Bool) → ℕ → Option CalendarDay → Type 0
NextDay p from (Some d) = (d.0 ≤ last_day) × Next p from (last_day + 1) d.0
NextDay p from None = Next p from (last_day + 1) (last_day + 1)

-- no day before place n has that date or a later one
pub record DatesAhead (days : List ℕ) (date n : ℕ) : Type 0 where
  pub high : n ≤ length days
  pub early : (k : ℕ) → k < n → date_in (slice_index days k) < date
