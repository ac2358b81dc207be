-- Runs of any two functions: two that are named back and meet, meet at their heads; and n + 1 numbers below n are not all different.
-- Assumes nothing.
use Rattle.std.specs.Prelude.{ℕ, zero, suc, ◌<◌, ◌≤◌, ◌≡◌, refl}
use Rattle.std.proofs.Common.{sym, ap, ◌∙◌, arith}
use Rattle.prelude.specs.Choice.{if_eq}
use Rattle.prelude.proofs.Laws.Choice.{eq_elim}

module _ (previous next : ℕ → ℕ) (none : ℕ) where
  -- j steps on from r
  abbrev pub run_of : ℕ → ℕ → ℕ
  run_of r zero = r
  run_of r (suc j) = next (run_of r j)

  -- k steps from r on, each named back, none from `none`
  abbrev pub Back : ℕ → ℕ → Type 0
  Back r k = (j : ℕ) → j < k → (previous (next (run_of r j)) ≡ run_of r j) × (run_of r j ≡ none → ⊥)

  pub runs-meet : (r s i j k l : ℕ) → previous r ≡ none → previous s ≡ none → Back r k → Back s l → i ≤ k → j ≤ l → run_of r i ≡ run_of s j → (r ≡ s) × (i ≡ j)
  runs-meet r s zero zero k l p q b c h m e = (e, refl)
  runs-meet r s zero (suc j) k l p q b c h m e =
      let z : none ≡ run_of s j = sym p ∙ ap previous e ∙ (c j (omega arith)).0 in
      absurd ((c j (omega arith)).1 (sym z))
  runs-meet r s (suc i) zero k l p q b c h m e =
      let z : run_of r i ≡ none = sym (b i (omega arith)).0 ∙ ap previous e ∙ q in
      absurd ((b i (omega arith)).1 z)
  runs-meet r s (suc i) (suc j) k l p q b c h m e =
      let z : run_of r i ≡ run_of s j = sym (b i (omega arith)).0 ∙ ap previous e ∙ (c j (omega arith)).0 in
      let y = runs-meet r s i j k l p q b c (omega arith) (omega arith) z in
      (y.0, ap suc y.1)

pub pigeonhole : (n : ℕ) (f : ℕ → ℕ) → ((j : ℕ) → j ≤ n → f j < n) → ((i j : ℕ) → i < j → j ≤ n → f i ≡ f j → ⊥) → ⊥
pigeonhole zero f h d = absurd (omega (arith, h 0 (omega arith)))
pigeonhole (suc n) f h d =
    pigeonhole n g
    (λ j l. eq_elim (λ x. x < n) (f j) n (f (suc n)) (f j)
    (λ e. omega (arith, h (suc n) (omega arith), other j l e))
    (λ x. omega (arith, h j (omega arith), x)))
    (λ i j l m. eq_elim (λ x. x ≡ g j → ⊥) (f i) n (f (suc n)) (f i)
    (λ e. eq_elim (λ y. f (suc n) ≡ y → ⊥) (f j) n (f (suc n)) (f j) (λ e' z. d i j l (omega arith) (e ∙ sym e')) (λ x z. d j (suc n) (omega arith) (omega arith) (sym z)))
    (λ x. eq_elim (λ y. f i ≡ y → ⊥) (f j) n (f (suc n)) (f j) (λ e' z. d i (suc n) (omega arith) (omega arith) z) (λ y z. d i j l (omega arith) z)))
  where
    -- the one that is n, replaced by the last
    g : ℕ → ℕ
    g j = if_eq (f j) n (f (suc n)) (f j)

    other : (j : ℕ) → j ≤ n → f j ≡ n → f (suc n) ≡ n → ⊥
    other j l e e' = d j (suc n) (omega arith) (omega arith) (e ∙ sym e')
