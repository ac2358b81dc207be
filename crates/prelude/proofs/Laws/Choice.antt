-- Laws of choices: what one is where its test is known, what holds of both arms, and what an answer says of its test.
-- Assumes nothing.
use Rattle.std.specs.Prelude.{ℕ, ◌<◌, ◌≤◌, ◌≡◌, refl, Bool, true, false, ltb, eqb}
use Rattle.std.proofs.Common.{sym, ◌∙◌, arith, lt-ltb, le-ltb, eq-eqb, ne_eqb, ltb-true, ltb-false, eqb-true}
use Rattle.std.proofs.lemmas.Bool.{eqb-false}
use Rattle.prelude.specs.Choice.{pick, if_lt, if_eq, if_b}

-- Two constructors differ: `cc` finds this equation where one of theirs is given.
pub constructors_differ : ◌≡◌ {A = ℕ} 0 1 → ⊥
constructors_differ z = omega arith

-- What a choice is where its test is known. The proof stands first, so that `rw (is_lt h)` finds the rest.
pub is_lt : {a b : ℕ} → a < b → {X : Type 0} (x y : X) → if_lt a b x y ≡ x
unfolding if_lt
is_lt {a} {b} h x y = simp (lt-ltb a b h)

pub is_ge : {a b : ℕ} → b ≤ a → {X : Type 0} (x y : X) → if_lt a b x y ≡ y
unfolding if_lt
is_ge {a} {b} h x y = simp (le-ltb a b h)

pub is_eq : {a b : ℕ} → a ≡ b → {X : Type 0} (x y : X) → if_eq a b x y ≡ x
unfolding if_eq
is_eq {a} {b} h x y = simp (eq-eqb a b h)

pub is_ne : {a b : ℕ} → (a ≡ b → ⊥) → {X : Type 0} (x y : X) → if_eq a b x y ≡ y
unfolding if_eq
is_ne {a} {b} h x y = simp (ne_eqb a b h)

pub is_true : {b : Bool} → b ≡ true → {X : Type 0} (x y : X) → if_b b x y ≡ x
unfolding if_b
is_true h x y = simp h

pub is_false : {b : Bool} → b ≡ false → {X : Type 0} (x y : X) → if_b b x y ≡ y
unfolding if_b
is_false h x y = simp h

-- The same, as the answers of a deciding function are found: r is what its code returns.
pub lt_yes : {X : Type 0} (a b : ℕ) {r x : X} (y : X) → a < b → r ≡ x → r ≡ if_lt a b x y
lt_yes a b {r} {x} y h e = e ∙ sym (is_lt h x y)

pub lt_no : {X : Type 0} (a b : ℕ) {r : X} (x : X) {y : X} → b ≤ a → r ≡ y → r ≡ if_lt a b x y
lt_no a b {r} x {y} h e = e ∙ sym (is_ge h x y)

pub eq_yes : {X : Type 0} (a b : ℕ) {r x : X} (y : X) → a ≡ b → r ≡ x → r ≡ if_eq a b x y
eq_yes a b {r} {x} y h e = e ∙ sym (is_eq h x y)

pub eq_no : {X : Type 0} (a b : ℕ) {r : X} (x : X) {y : X} → (a ≡ b → ⊥) → r ≡ y → r ≡ if_eq a b x y
eq_no a b {r} x {y} h e = e ∙ sym (is_ne h x y)

pub b_yes : {X : Type 0} (b : Bool) {r x : X} (y : X) → b ≡ true → r ≡ x → r ≡ if_b b x y
b_yes b {r} {x} y h e = e ∙ sym (is_true h x y)

pub b_no : {X : Type 0} (b : Bool) {r : X} (x : X) {y : X} → b ≡ false → r ≡ y → r ≡ if_b b x y
b_no b {r} x {y} h e = e ∙ sym (is_false h x y)

-- by a flag v that a callee returned for the test b
pub if_by_true : {X : Type 0} (v b : Bool) {r x : X} (y : X) → v ≡ b → v ≡ true → r ≡ x → r ≡ if_b b x y
if_by_true v b y e h p = b_yes b y (sym e ∙ h) p

pub if_by_false : {X : Type 0} (v b : Bool) {r : X} (x : X) {y : X} → v ≡ b → v ≡ false → r ≡ y → r ≡ if_b b x y
if_by_false v b x e h p = b_no b x (sym e ∙ h) p

pub ruleset picks = (lt_yes, lt_no, eq_yes, eq_no, b_yes, b_no, if_by_true, if_by_false, arith)

-- A test is passed or failed.
pub bool_cases : {P : Type 0} (b : Bool) → (b ≡ true → P) → (b ≡ false → P) → P
bool_cases true f g = f refl
bool_cases false f g = g refl

-- What holds of both arms, each under its test, holds of the choice.
pub lt_elim : {X : Type 0} (P : X → Type 0) (a b : ℕ) (x y : X) → (a < b → P x) → (b ≤ a → P y) → P (if_lt a b x y)
unfolding if_lt
lt_elim {X} P a b x y f g = by (ltb a b) (ltb-true a b) (ltb-false a b)
  where
    by : (t : Bool) → (t ≡ true → a < b) → (t ≡ false → b ≤ a) → P (pick t x y)
    by true l m = f (l refl)
    by false l m = g (m refl)

pub eq_elim : {X : Type 0} (P : X → Type 0) (a b : ℕ) (x y : X) → (a ≡ b → P x) → ((a ≡ b → ⊥) → P y) → P (if_eq a b x y)
unfolding if_eq
eq_elim {X} P a b x y f g = by (eqb a b) (eqb-true a b) (eqb-false a b)
  where
    by : (t : Bool) → (t ≡ true → a ≡ b) → (t ≡ false → a ≡ b → ⊥) → P (pick t x y)
    by true l m = f (l refl)
    by false l m = g (m refl)

pub b_elim : {X : Type 0} (P : X → Type 0) (b : Bool) (x y : X) → (b ≡ true → P x) → (b ≡ false → P y) → P (if_b b x y)
unfolding if_b
b_elim P true x y f g = f refl
b_elim P false x y f g = g refl

-- A choice by the truth of a test is one by the test.
pub lt_choice : {X : Type 0} (a b : ℕ) (x y : X) → if_b (if_lt a b true false) x y ≡ if_lt a b x y
lt_choice a b x y =
    lt_elim (λ z. if_b z x y ≡ if_lt a b x y) a b true false
    (λ h. is_true refl _ _ ∙ sym (is_lt h _ _)) (λ h. is_false refl _ _ ∙ sym (is_ge h _ _))

-- A choice that is r, whose first arm is not: the test failed, and the second arm is r.
pub lt_skip : {X : Type 0} (a b : ℕ) (x y : X) {r : X} → (x ≡ r → ⊥) → if_lt a b x y ≡ r → (b ≤ a) × (y ≡ r)
lt_skip a b x y {r} n =
    lt_elim (λ z. z ≡ r → (b ≤ a) × (y ≡ r)) a b x y (λ _. λ e. absurd (n e)) (λ g. λ e. (g, e))

pub eq_skip : {X : Type 0} (a b : ℕ) (x y : X) {r : X} → (x ≡ r → ⊥) → if_eq a b x y ≡ r → (a ≡ b → ⊥) × (y ≡ r)
eq_skip a b x y {r} n =
    eq_elim (λ z. z ≡ r → (a ≡ b → ⊥) × (y ≡ r)) a b x y (λ _. λ e. absurd (n e)) (λ g. λ e. (g, e))

pub b_skip : {X : Type 0} (b : Bool) (x y : X) {r : X} → (x ≡ r → ⊥) → if_b b x y ≡ r → (b ≡ false) × (y ≡ r)
b_skip b x y {r} n =
    b_elim (λ z. z ≡ r → (b ≡ false) × (y ≡ r)) b x y (λ _. λ e. absurd (n e)) (λ g. λ e. (g, e))

-- and one whose second arm is not
pub lt_take : {X : Type 0} (a b : ℕ) (x y : X) {r : X} → (y ≡ r → ⊥) → if_lt a b x y ≡ r → (a < b) × (x ≡ r)
lt_take a b x y {r} n =
    lt_elim (λ z. z ≡ r → (a < b) × (x ≡ r)) a b x y (λ l. λ e. (l, e)) (λ _. λ e. absurd (n e))

pub eq_take : {X : Type 0} (a b : ℕ) (x y : X) {r : X} → (y ≡ r → ⊥) → if_eq a b x y ≡ r → (a ≡ b) × (x ≡ r)
eq_take a b x y {r} n =
    eq_elim (λ z. z ≡ r → (a ≡ b) × (x ≡ r)) a b x y (λ l. λ e. (l, e)) (λ _. λ e. absurd (n e))

pub b_take : {X : Type 0} (b : Bool) (x y : X) {r : X} → (y ≡ r → ⊥) → if_b b x y ≡ r → (b ≡ true) × (x ≡ r)
b_take b x y {r} n =
    b_elim (λ z. z ≡ r → (b ≡ true) × (x ≡ r)) b x y (λ l. λ e. (l, e)) (λ _. λ e. absurd (n e))
