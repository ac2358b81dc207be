-- What the functions of this crate know of a note on their way through it.
-- Assumes nothing.
use Rattle.std.specs.Prelude.{ℕ, ◌+◌, ◌-◌, ◌<◌, ◌≤◌, ◌≡◌, List}
use Rattle.prelude.specs.Bytes.{byte}

-- p is the place behind the last zero of the 40 bytes from `start` on; `start` where they have none.
pub record PastZero (s : List ℕ) (start p : ℕ) : Type 0 where
  pub low : start ≤ p
  pub high : p ≤ start + 40
  pub none : (k : ℕ) → p ≤ k → k < start + 40 → byte s k ≡ 0 → ⊥
  pub zero : start < p → byte s (p - 1) ≡ 0
