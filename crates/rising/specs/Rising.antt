-- Whether a number stands in a list, a test of what does not, and where a number belongs in a list that rises.
-- Assumes nothing.
use Rattle.std.specs.Prelude.{ℕ, suc, ◌<◌, ◌≤◌, Bool, true, false, List, [], ◌∷◌, length, get_or}
use Rattle.prelude.specs.Choice.{if_eq, if_b}

-- whether a number stands in a list
unfoldable pub contains : List ℕ → ℕ → Bool
contains [] n = false
contains (x ∷ xs) n = if_eq x n true (contains xs n)

-- a test, but false of a number that stands in the list
abbrev pub unless_in : List ℕ → ℕ → Bool → Bool
unless_in list n test = if_b (contains list n) false test

-- each number is above the one before
pub record Rising (list : List ℕ) : Type 0 where
  pub step : (i : ℕ) → suc i < length list → get_or list i 0 < get_or list (suc i) 0

-- the first `place` numbers are below n
pub record Below (list : List ℕ) (n place : ℕ) : Type 0 where
  pub most : place ≤ length list
  pub each : (i : ℕ) → i < place → get_or list i 0 < n

-- and no others are
pub record Split (list : List ℕ) (n place : ℕ) : Type 0 where
  pub below : Below list n place
  pub above : (i : ℕ) → place ≤ i → i < length list → n ≤ get_or list i 0
