-- A word is spelled so where it is those four letters, as `==` on slices finds it.
use Rattle.std.proofs.Common.{ap, ℕ, ◌≡◌, Bool, true, false, ◌&&◌, eqb, List, [], ◌∷◌, refl, sym, ◌∙◌, arith}
use Rattle.std.specs.Cmp.Lexicographic.{pointwise}
use Rattle.prelude.specs.Choice.{pick, if_eq}
use Rattle.prelude.proofs.Laws.Choice.{is_eq, is_ne}
use Rattle.commands.specs.Words.{spelled}

same_and : (x a : ℕ) (p : Bool) → if_eq x a p false ≡ (eqb x a && p)
unfolding if_eq
same_and x a p = elim (eqb x a) as (λ t. pick t p false ≡ (t && p)) [ true ↦ refl | false ↦ refl ]

and_false : (p : Bool) → (p && false) ≡ false
and_false true = refl
and_false false = refl

pub spelled_pointwise : (w : List ℕ) (a b c d : ℕ) → spelled w a b c d ≡ pointwise eqb w (a ∷ (b ∷ (c ∷ (d ∷ []))))
unfolding spelled
spelled_pointwise [] a b c d = is_ne (λ e. omega arith) _ _
spelled_pointwise (x ∷ []) a b c d = is_ne (λ e. omega arith) _ _ ∙ sym (simp and_false)
spelled_pointwise (x ∷ (y ∷ [])) a b c d = is_ne (λ e. omega arith) _ _ ∙ sym (simp and_false)
spelled_pointwise (x ∷ (y ∷ (z ∷ []))) a b c d = is_ne (λ e. omega arith) _ _ ∙ sym (simp and_false)
spelled_pointwise (x ∷ (y ∷ (z ∷ (v ∷ [])))) a b c d = is_eq refl _ _ ∙ rw (same_and x a _, same_and y b _, same_and z c _, same_and v d true) refl
spelled_pointwise (x ∷ (y ∷ (z ∷ (v ∷ (u ∷ us))))) a b c d = is_ne (λ e. omega arith) _ _ ∙ sym (simp and_false)

-- What the test of a slice against such a word gives.
pub spelled_by : (w word : List ℕ) (a b c d : ℕ) {v : Bool} → v ≡ pointwise eqb w word → word ≡ a ∷ (b ∷ (c ∷ (d ∷ []))) → v ≡ spelled w a b c d
spelled_by w word a b c d e k = e ∙ ap (pointwise eqb w) k ∙ sym (spelled_pointwise w a b c d)
