-- The next occurrence, document 01: for any test of days.
-- Assumes nothing.
use Rattle.std.specs.Prelude.{Option, Some, None, ℕ, zero, suc, ◌+◌, ◌-◌, ◌<◌, ◌≤◌, ◌≡◌, Bool, true, false}
use Rattle.prelude.specs.Choice.{if_b}
use Rattle.days.specs.Days.{last_day}
use Rattle.days.specs.declared.types.CalendarDay.{CalendarDay}
use Rattle.pages.specs.declared.types.Search.{Search}

-- "how many days were looked at, from the asked day through the found one"
abbrev pub found_on : ℕ → ℕ → Search
found_on asked found = record { day = Some (record { 0 = found }); looked = found - asked + 1 }

-- "if none exists up to 43,829, it says none and the count is 43,830 − asked day"
abbrev pub none_from : ℕ → Search
none_from asked = record { day = None; looked = last_day + 1 - asked }

-- the first of the k days from d on that passes
unfoldable pub first_shown : (ℕ → Bool) → ℕ → ℕ → ℕ → Search
first_shown p asked zero d = none_from asked
first_shown p asked (suc k) d = if_b (p d) (found_on asked d) (first_shown p asked k (suc d))

-- "the first such day at or after it"
unfoldable pub next_of : (ℕ → Bool) → ℕ → Search
next_of p asked = first_shown p asked (last_day + 1 - asked) asked

-- what the answers say, for any test of days
pub record FirstDay (p : ℕ → Bool) (asked found : ℕ) : Type 0 where
  pub at : asked ≤ found
  pub most : found ≤ last_day
  pub passes : p found ≡ true
  pub none : (d : ℕ) → asked ≤ d → d < found → p d ≡ false

-- a search finds a day or none, and refuses nothing
abbrev pub told_by : (ℕ → Bool) → ℕ → ℕ → Option CalendarDay → Type 0
told_by p asked looked (Some d) = FirstDay p asked d.0 × (looked ≡ d.0 - asked + 1)
told_by p asked looked None = ((d : ℕ) → asked ≤ d → d ≤ last_day → p d ≡ false) × (looked ≡ last_day + 1 - asked)

abbrev pub Told : (ℕ → Bool) → ℕ → Search → Type 0
Told p asked s = told_by p asked s.looked s.day
