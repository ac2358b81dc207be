-- The days of a Calendar file, document 01 "The Calendar file": those with appointments, rising; and the refusal 13.
-- Assumes nothing.
use Rattle.std.specs.Prelude.{ℕ, zero, suc, ◌+◌, Bool, true, false, List, [], ◌∷◌, length}
use Rattle.prelude.specs.Choice.{if_lt}
use Rattle.calendar.specs.File.{Appointment, Day, units, block_bytes, first_unit, last_block}

-- "a count of days, 0 to 366"
abbrev pub most_days : ℕ
most_days = 366

-- "One descriptor for each day with appointments": a day in front of those after it
unfoldable pub add_day : ℕ → List Appointment → List Day → List Day
add_day d [] ds = ds
add_day d (a ∷ al) ds = record { day = d; appointments = a ∷ al } ∷ ds

-- "rising": of count days from d on those with appointments, where `list` gives a day's
unfoldable pub days_with : (ℕ → List Appointment) → ℕ → ℕ → List Day
days_with list zero d = []
days_with list (suc count) d = add_day d (list d) (days_with list count (suc d))

-- "a day's block would start at block 32,768 or later", where the first starts at block u
unfoldable pub past_last_block_from : ℕ → List Day → Bool
past_last_block_from u [] = false
past_last_block_from u (d ∷ ds) = if_lt last_block u true (past_last_block_from (u + units (length (block_bytes d))) ds)

unfoldable pub past_last_block : List Day → Bool
past_last_block ds = past_last_block_from (first_unit (length ds)) ds
