-- Laws of `splice`: the parts of what it leaves, and one write after another.
-- Assumes nothing.
use Rattle.std.specs.Prelude.{ℕ, ◌+◌, ◌≤◌, ◌≡◌, take, drop}
use Rattle.std.proofs.Math.Path.{refl}
use Rattle.std.proofs.Common.{sym, ap, ◌∙◌, add_assoc, le_refl, length-append, drop-drop, length-take-le}
use mathlib.Core.List.{List, [], ◌++◌, append_assoc}
use Rattle.std.proofs.Math.ListN.{length}
use Rattle.std.proofs.Math.Seq.{paste, paste-zero, take-length, take-take, take-append-le}
use Rattle.std.proofs.lemmas.List.Edits.{length-paste, take-paste, drop-paste}
use Rattle.prelude.specs.Splice.{splice}

module _ {A : Type 0} where
  -- It is `lib.Seq`'s `paste` of all of src, whose laws are used here.
  pub paste-splice : (d : List A) (at : ℕ) (s : List A) → paste d at s (length s) ≡ splice d at s
  unfolding splice
  paste-splice d at s = rw (take-length s, append_assoc (take at d) s (drop (at + length s) d))

  -- nothing written
  pub splice-nil : (d : List A) (at : ℕ) → splice d at [] ≡ d
  splice-nil d at = sym (paste-zero d at [] ∙ paste-splice d at [])

  pub length-splice : (d : List A) (at : ℕ) (s : List A) → at + length s ≤ length d → length (splice d at s) ≡ length d
  length-splice d at s h = rw (← paste-splice d at s) (length-paste d at s (length s) h (le_refl (length s)))

  -- up to the end of what was written
  pub take-splice : (d : List A) (at : ℕ) (s : List A) → at ≤ length d → take (at + length s) (splice d at s) ≡ take at d ++ s
  take-splice d at s h =
      rw (← paste-splice d at s)
      (take-paste d at s (length s) h (le_refl (length s)) ∙ ap (λ (r : List A). take at d ++ r) (take-length s))

  -- from there on
  pub drop-splice : (d : List A) (at : ℕ) (s : List A) → at ≤ length d → drop (at + length s) (splice d at s) ≡ drop (at + length s) d
  drop-splice d at s h = rw (← paste-splice d at s) (drop-paste d at s (length s) h (le_refl (length s)))

  -- before the place
  pub take-splice-before : (d : List A) (at : ℕ) (s : List A) (k : ℕ) → k ≤ at → at ≤ length d → take k (splice d at s) ≡ take k d
  unfolding splice
  take-splice-before d at s k h l =
      take-append-le k (take at d) _ (rw (length-take-le at d l) h) ∙ take-take k at d h

  -- by its text, without opening what stands inside
  splice-is : (d : List A) (at : ℕ) (s : List A) → splice d at s ≡ take at d ++ (s ++ drop (at + length s) d)
  unfolding splice
  splice-is d at s = refl

  -- one write, and the next where it ended, are one write of both
  pub splice-splice : (d : List A) (at : ℕ) (a b : List A) → at ≤ length d → splice (splice d at a) (at + length a) b ≡ splice d at (a ++ b)
  splice-splice d at a b h =
      rw (splice-is (splice d at a) (at + length a) b, take-splice d at a h, ← drop-drop (length b) (at + length a) (splice d at a), drop-splice d at a h, drop-drop (length b) (at + length a) d)
      (rw (splice-is d at (a ++ b), length-append a b, add_assoc at (length a) (length b)) (simp append_assoc))

  -- the same, as a function that writes twice has it: the hypotheses are what its callees ensure
  pub splice-then :
      (d : List A) (at : ℕ) (a b : List A) (k : ℕ) (d₁ d₂ : List A)
      → at ≤ length d → k ≡ at + length a → d₁ ≡ splice d at a → d₂ ≡ splice d₁ k b → d₂ ≡ splice d at (a ++ b)
  splice-then d at a b k d₁ d₂ h ek e₁ e₂ = e₂ ∙ rw (ek, e₁) (splice-splice d at a b h)
