-- What one record does to the days of a span on which it shows: its weight is added to their sums, its bytes are put at their places.
-- Assumes nothing.
use Rattle.std.specs.Prelude.{ℕ, zero, suc, ◌+◌, ◌<◌, ◌≤◌, ◌*◌, ◌≡◌, Bool, true, List, length, get_or}
use Rattle.prelude.specs.Choice.{if_b}
use Rattle.prelude.specs.Splice.{splice}
use Rattle.calendar.specs.File.{Appointment, appointments_bytes}
use Rattle.calendar_writer.specs.Sums.{rows, units_to}

-- w added at each day that passes, below j
pub record Added (p : ℕ → Bool) (w j : ℕ) (old new : List ℕ) : Type 0 where
  pub long : length new ≡ length old
  pub behind : (k : ℕ) → k < j → get_or new k 0 ≡ get_or old k 0 + if_b (p k) w 0
  pub ahead : (k : ℕ) → j ≤ k → get_or new k 0 ≡ get_or old k 0

-- a piece of that size has room at the places of the first n days that pass
pub record Roomy (p : ℕ → Bool) (n size : ℕ) (places : List ℕ) (room : ℕ) : Type 0 where
  pub each : (k : ℕ) → k < n → p k ≡ true → get_or places k 0 + size ≤ room

-- a piece put at the places of the days that pass, of m days from the k-th on
unfoldable pub scatter : ℕ → (ℕ → Bool) → List ℕ → List ℕ → ℕ → List ℕ → List ℕ
scatter zero p piece places k out = out
scatter (suc m) p piece places k out = scatter m p piece places (suc k) (if_b (p k) (splice out (get_or places k 0) piece) out)

-- the place of day i's next appointment, from the blocks' start on
abbrev pub place_of : List ℕ → (ℕ → List Appointment) → ℕ → ℕ
place_of ss so i = 64 * units_to i ss + (10 + length (appointments_bytes (so i)))

-- The blocks as they stand in a buffer, and the place of each day's next appointment.
pub record FilledBlocks (o : List ℕ) (at d : ℕ) (ss : List ℕ) (so : ℕ → List Appointment) (places out : List ℕ) : Type 0 where
  pub stands : out ≡ splice o at (rows so d 0 ss)
  pub place : (i : ℕ) → i < length ss → get_or places i 0 ≡ at + place_of ss so i
