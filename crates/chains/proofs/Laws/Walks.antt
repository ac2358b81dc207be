-- A walk and its links, one record at a time.
-- Assumes nothing.
use Prim.Native.Nat.{ℕ, zero, suc, ◌-◌, ◌<◌, ◌≤◌}
use Rattle.std.specs.Prelude.{Ok, ◌≡◌, true, false, List, [], ◌∷◌, length}
use Rattle.std.proofs.Math.Path.{refl, ap}
use Rattle.std.proofs.Common.{◌∙◌}
use native.Mathlib.Omega.{arith}
use Rattle.prelude.specs.Choice.{if_lt}
use Rattle.prelude.proofs.Laws.Choice.{is_lt, is_ge, is_eq, is_ne, is_true, is_false, eq_elim}
use Rattle.prelude.specs.Refusals.{bad_chain}
use Rattle.prelude.specs.Verdicts.{refused}
use Rattle.chains.specs.Chains.{field_of, no_record, walk, next_bad, linked}

-- a walk with a record ahead, and one that is out
module _ (next : List ℕ) where
  walk_first : (k r : ℕ) → 0 < k → walk k next r ≡ r ∷ if_lt (field_of next r) (length next) (walk (k - 1) next (field_of next r)) []
  unfolding walk
  walk_first zero r h = absurd (omega arith)
  walk_first (suc k) r h =
      let e : k ≡ suc k - 1 = omega arith in
      ap (λ (m : ℕ). r ∷ if_lt (field_of next r) (length next) (walk m next (field_of next r)) []) e

  walk-on : (k r : ℕ) → 0 < k → field_of next r < length next → walk k next r ≡ r ∷ walk (k - 1) next (field_of next r)
  walk-on k r h l = walk_first k r h ∙ ap (λ (rs : List ℕ). r ∷ rs) (is_lt l _ _)

  walk-last : (k r : ℕ) → 0 < k → length next ≤ field_of next r → walk k next r ≡ r ∷ []
  walk-last k r h l = walk_first k r h ∙ ap (λ (rs : List ℕ). r ∷ rs) (is_ge l _ _)

  walk-out : (k r : ℕ) → k ≤ 0 → walk k next r ≡ []
  unfolding walk
  walk-out zero r h = refl
  walk-out (suc k) r h = absurd (omega arith)

-- links along a walk: a record that is bad, one that leads on, the last, and none left
module _ (previous next : List ℕ) (k r : ℕ) where
  pub links-bad : 0 < k → next_bad previous next r ≡ true → linked previous next (walk k next r) ≡ refused bad_chain r
  unfolding linked
  links-bad h e = ap (linked previous next) (walk_first next k r h) ∙ is_true e _ _

  pub links-on : 0 < k → next_bad previous next r ≡ false → field_of next r < length next → linked previous next (walk k next r) ≡ linked previous next (walk (k - 1) next (field_of next r))
  unfolding linked
  links-on h e l = ap (linked previous next) (walk-on next k r h l) ∙ is_false e _ _

  pub links_end : 0 < k → next_bad previous next r ≡ false → length next ≤ field_of next r → linked previous next (walk k next r) ≡ Ok tt
  unfolding linked
  links_end h e l = ap (linked previous next) (walk-last next k r h l) ∙ is_false e _ _

  pub links-out : k ≤ 0 → linked previous next (walk k next r) ≡ Ok tt
  unfolding linked
  links-out h = ap (linked previous next) (walk-out next k r h)

-- a next: none, out of range, not named back, named back
module _ (previous next : List ℕ) (r : ℕ) where
  pub next-none : field_of next r ≡ no_record → next_bad previous next r ≡ false
  unfolding next_bad
  next-none e = is_eq e _ _

  pub next-out : (field_of next r ≡ no_record → ⊥) → length previous ≤ field_of next r → next_bad previous next r ≡ true
  unfolding next_bad
  next-out n l = is_ne n _ _ ∙ is_ge l _ _

  pub next-other : (field_of next r ≡ no_record → ⊥) → field_of next r < length previous → (field_of previous (field_of next r) ≡ r → ⊥) → next_bad previous next r ≡ true
  unfolding next_bad
  next-other n l d = is_ne n _ _ ∙ is_lt l _ _ ∙ is_ne d _ _

  pub next-back : field_of next r < length previous → field_of previous (field_of next r) ≡ r → next_bad previous next r ≡ false
  unfolding next_bad
  next-back l e =
      eq_elim (λ b. b ≡ false) (field_of next r) no_record _ _ (λ _. refl) (λ _. is_lt l _ _ ∙ is_eq e _ _)
