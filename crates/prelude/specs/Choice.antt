-- Choices by a test, shut, so that laws and not their text are used: `if_lt`, `if_eq`, `if_b`. Every definition of the project chooses by these.
-- Assumes nothing.
use Rattle.std.specs.Prelude.{ℕ, Bool, true, false, ltb, eqb}

abbrev pub pick : {X : Type 0} → Bool → X → X → X
pick true x y = x
pick false x y = y

-- x where a < b, else y
unfoldable pub if_lt : {X : Type 0} → ℕ → ℕ → X → X → X
if_lt a b x y = pick (ltb a b) x y

-- x where a and b are equal, else y
unfoldable pub if_eq : {X : Type 0} → ℕ → ℕ → X → X → X
if_eq a b x y = pick (eqb a b) x y

-- x where the test holds, else y
unfoldable pub if_b : {X : Type 0} → Bool → X → X → X
if_b b x y = pick b x y
