-- What the judging pass over a list knows, and what it asks of an entry before it looks at its record.
-- Assumes nothing.
use Rattle.std.specs.Prelude.{ℕ, ◌<◌, Bool, true, false, List, get_or}
use Rattle.prelude.specs.Choice.{if_lt, if_b}
use Rattle.cancelled.specs.Cancelled.{cancelled_number, rises_at, is_beyond}

-- the first n entries rise
pub record RisesUpTo (list : List ℕ) (n : ℕ) : Type 0 where
  pub each : (a b : ℕ) → a < b → b < n → get_or list a 0 < get_or list b 0

-- it is not above the one before, names no record of that many, or is a seventeenth
unfoldable pub out_of_order : ℕ → List ℕ → ℕ → Bool
out_of_order records list i = if_b (rises_at list i) (if_lt (cancelled_number (get_or list i 0)) records (is_beyond list i) true) true

-- types 2 to 5
unfoldable pub repeated_type : ℕ → Bool
repeated_type t = if_lt t 2 false (if_lt 5 t false true)
