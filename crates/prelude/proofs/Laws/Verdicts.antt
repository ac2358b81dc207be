-- Laws of verdicts one after the other: by a test, two in a row, and in turn from a number on.
-- Assumes nothing.
use Prim.Native.Nat.{ℕ, zero, suc, ◌+◌, ◌-◌, ◌<◌, ◌≤◌}
use Rattle.std.specs.Prelude.{Ok, Err, ◌≡◌, Bool, true, false}
use Rattle.std.proofs.Math.Path.{refl, ap}
use Rattle.std.proofs.Common.{sym, ◌∙◌, add-one}
use native.Mathlib.Omega.{arith}
use Rattle.prelude.specs.Choice.{if_b}
use Rattle.prelude.proofs.Laws.Choice.{is_true, is_false, lt_elim}
use Rattle.prelude.proofs.Laws.Refusals.{refused_not_fine}
use Rattle.prelude.specs.Verdicts.{Verdict, refused, unless_bad, and_then, in_turn}
use Rattle.prelude.specs.declared.refusals.Refusal.{Refusal}

-- by a test
pub unless_bad-true : {b : Bool} (n p : ℕ) → b ≡ true → unless_bad b n p ≡ refused n p
unfolding unless_bad
unless_bad-true n p e = is_true e _ _

pub unless_bad-false : {b : Bool} (n p : ℕ) → b ≡ false → unless_bad b n p ≡ Ok tt
unfolding unless_bad
unless_bad-false n p e = is_false e _ _

pub unless_bad_fine : (b : Bool) (n p : ℕ) → unless_bad b n p ≡ Ok tt → b ≡ false
unfolding unless_bad if_b
unless_bad_fine true n p e = absurd (refused_not_fine e)
unless_bad_fine false n p e = refl

-- one after the other, where the first is v
pub and_then_fine : {u v : Verdict} (w : Verdict) → v ≡ u → v ≡ Ok tt → and_then u w ≡ w
unfolding and_then
and_then_fine w e f = rw (← e, f)

pub and_then-refused : {u v : Verdict} {x : Refusal} (w : Verdict) → v ≡ u → v ≡ Err x → and_then u w ≡ Err x
unfolding and_then
and_then-refused w e f = rw (← e, f)

pub and_then_fine_both : (v w : Verdict) → and_then v w ≡ Ok tt → (v ≡ Ok tt) × (w ≡ Ok tt)
unfolding and_then
and_then_fine_both (Ok tt) w e = (refl, e)
and_then_fine_both (Err x) w e = absurd (refused_not_fine e)

-- in turn from i up to k
module _ (judged : ℕ → Verdict) where
  pub in-turn-first : (k : ℕ) → in_turn judged k 0 ≡ in_turn judged (k - 0) 0
  in-turn-first k = ap (λ (m : ℕ). in_turn judged m 0) (omega arith)

  left : (k i : ℕ) → i < k → in_turn judged (k - i) i ≡ in_turn judged (suc (k - (i + 1))) i
  left k i h = ap (λ (m : ℕ). in_turn judged m i) (omega arith)

  pub in-turn-fine : (k i : ℕ) {v : Verdict} → i < k → v ≡ judged i → v ≡ Ok tt → in_turn judged (k - i) i ≡ in_turn judged (k - (i + 1)) (i + 1)
  unfolding in_turn
  in-turn-fine k i h e f = left k i h ∙ and_then_fine _ e f ∙ ap (in_turn judged (k - (i + 1))) (sym (add-one i))

  pub in-turn-refused : (k i : ℕ) {v : Verdict} {x : Refusal} → i < k → v ≡ judged i → v ≡ Err x → in_turn judged (k - i) i ≡ Err x
  unfolding in_turn
  in-turn-refused k i h e f = left k i h ∙ and_then-refused _ e f

  none : (k i : ℕ) → k ≡ 0 → in_turn judged k i ≡ Ok tt
  unfolding in_turn
  none zero i e = refl
  none (suc k) i e = absurd (omega arith)

  pub in-turn-past : (k i : ℕ) → k ≤ i → in_turn judged (k - i) i ≡ Ok tt
  in-turn-past k i h = none (k - i) i (omega arith)

  pub in-turn-fine-each : (k i : ℕ) → in_turn judged k i ≡ Ok tt → (j : ℕ) → i ≤ j → j < i + k → judged j ≡ Ok tt
  unfolding in_turn
  in-turn-fine-each zero i e j a b = absurd (omega arith)
  in-turn-fine-each (suc k) i e j a b =
      let s = and_then_fine_both (judged i) _ e in
      lt_elim {X = Unit {0}} (λ _. judged j ≡ Ok tt) i j tt tt (λ h. in-turn-fine-each k (suc i) s.1 j h (omega arith)) (λ h. let q : j ≡ i = omega arith in ap judged q ∙ s.0)

  pub each-fine-in-turn : (k i : ℕ) → ((j : ℕ) → i ≤ j → j < i + k → judged j ≡ Ok tt) → in_turn judged k i ≡ Ok tt
  unfolding in_turn
  each-fine-in-turn zero i f = refl
  each-fine-in-turn (suc k) i f = and_then_fine _ refl (f i (omega arith) (omega arith)) ∙ each-fine-in-turn k (suc i) (λ j a b. f j (omega arith) (omega arith))
