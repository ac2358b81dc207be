-- Choices as tests, for `grind`: a function that returns the test itself meets a choice between true and false.
-- Assumes nothing.
use Rattle.std.specs.Prelude.{ℕ, ◌≡◌, refl, Bool, true, false, ltb, eqb, if◌then◌else◌}
use Rattle.std.proofs.lemmas.Bool.Decides.{nat_tests}
use Rattle.prelude.specs.Choice.{if_lt, if_eq, if_b}

pub b_tested : {X : Type 0} (b : Bool) (x y : X) → if_b b x y ≡ (if b then x else y)
unfolding if_b
b_tested true x y = refl
b_tested false x y = refl

pub lt_tested : {X : Type 0} (a b : ℕ) (x y : X) → if_lt a b x y ≡ (if ltb a b then x else y)
unfolding if_lt if_b
lt_tested a b x y = b_tested (ltb a b) x y

pub eq_tested : {X : Type 0} (a b : ℕ) (x y : X) → if_eq a b x y ≡ (if eqb a b then x else y)
unfolding if_eq if_b
eq_tested a b x y = b_tested (eqb a b) x y

pub ruleset choices = (b_tested, lt_tested, eq_tested, nat_tests)
