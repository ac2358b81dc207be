-- The facts of a day on the way to a later one.
-- Assumes nothing.
use Rattle.std.specs.Prelude.{ℕ, ◌≤◌, ◌≡◌}
use Rattle.prelude.specs.Choice.{if_lt, if_b}
use Rattle.days.specs.Dates.{real}
use Rattle.days.specs.Days.{last_day, day_number}
use Rattle.days.specs.Facts.{facts_of}
use Rattle.days.specs.declared.types.Date.{Date}
use Rattle.days.specs.declared.types.DayFacts.{DayFacts}

-- the facts of a day, and a day at or after it that is in range
pub record FactsAt (f : DayFacts) (n : ℕ) : Type 0 where
  pub facts : f ≡ facts_of f.day.0
  pub high : n ≤ last_day

-- on to a date: the facts of its day where that date is real and ahead, else f
unfoldable pub moved_to : DayFacts → Date → DayFacts
moved_to f d = if_b (real d) (if_lt f.day.0 (day_number d) (facts_of (day_number d)) f) f
