-- A buffer that is filled piece by piece: `Grown` says what is written and what is left to write, for writes in a row and for loops alike.
-- `grown_start`, then `grown-space` and `grown-more` for each piece, then `grown-end`: their hypotheses are what a callee requires and ensures.
-- Assumes nothing.
use Rattle.std.specs.Prelude.{ℕ, ◌+◌, ◌≤◌, ◌<◌, ◌≡◌, refl, take, drop, set}
use Rattle.std.proofs.Math.Path.{sym}
use Rattle.std.proofs.Common.{◌∙◌, length-append, take-append-drop, drop-drop}
use mathlib.Core.List.{List, [], ◌∷◌, ◌++◌, append-nil, append_assoc}
use native.Mathlib.Omega.{arith}
use Rattle.std.proofs.Math.ListN.{length}
use Rattle.std.proofs.lemmas.List.Edits.{sets}
use Rattle.std.proofs.Math.Seq.{sets-eq}
use Rattle.prelude.specs.Splice.{splice}
use Rattle.prelude.proofs.Laws.Splice.{length-splice, take-splice, drop-splice}

-- `whole` is to be written over o₀ from at on. It stands in o up to pos, and `rest` is left of it.
pub record Grown {A : Type 0} (o₀ : List A) (at : ℕ) (whole : List A) (o : List A) (pos : ℕ) (rest : List A) : Type 0 where
  pub room : at + length whole ≤ length o₀
  pub long : length o ≡ length o₀
  pub sum : pos + length rest ≡ at + length whole
  pub done : take pos o ++ rest ≡ take at o₀ ++ whole
  pub kept : drop pos o ≡ drop pos o₀

-- nothing is written yet
pub grown_start : {A : Type 0} {o : List A} {at : ℕ} {whole : List A} → at + length whole ≤ length o → Grown o at whole o at whole
grown_start h = record { room = h; long = refl; sum = refl; done = refl; kept = refl }

module _ {A : Type 0} {o₀ : List A} {at : ℕ} {whole : List A} where
  -- the room for all that is left, where it is one last piece
  pub grown-last-fits : {o : List A} {pos : ℕ} {rest : List A} → Grown o₀ at whole o pos rest → pos + length rest ≤ length o
  grown-last-fits g = omega arith

  -- the room for the piece xs, which comes next
  pub grown-space : {o : List A} {pos : ℕ} (xs rest : List A) → Grown o₀ at whole o pos (xs ++ rest) → pos + length xs ≤ length o
  grown-space xs rest g = let l = length-append xs rest in omega arith

  -- the piece xs is written
  pub grown-more :
      {o o' : List A} {pos pos' : ℕ} {rest : List A} (xs : List A)
      → Grown o₀ at whole o pos (xs ++ rest) → pos' ≡ pos + length xs → o' ≡ splice o pos xs → Grown o₀ at whole o' pos' rest
  grown-more {o} {o'} {pos} {pos'} {rest} xs g ep eo =
      let l = length-append xs rest in
      let h = grown-space xs rest g in
      let at_most : pos ≤ length o = omega arith in
      record {
        room = g.room;
        long = rw eo (length-splice o pos xs h ∙ g.long);
        sum = omega arith;
        done = rw (ep, eo, take-splice o pos xs at_most, append_assoc (take pos o) xs rest) g.done;
        kept = rw (ep, eo, drop-splice o pos xs at_most, ← drop-drop (length xs) pos o, g.kept) (drop-drop (length xs) pos o₀);
      }

  -- what is left, told another way
  pub grown-rest-equal : {o : List A} {pos : ℕ} {rest rest' : List A} → rest ≡ rest' → Grown o₀ at whole o pos rest → Grown o₀ at whole o pos rest'
  grown-rest-equal e g = rw e at g

  -- all is written
  pub grown-end : {o : List A} {pos : ℕ} → Grown o₀ at whole o pos [] → (pos ≡ at + length whole) × (o ≡ splice o₀ at whole)
  unfolding splice
  grown-end {o} {pos} g =
      let e : pos ≡ at + length whole = omega arith in (
        e,
        sym (take-append-drop pos o)
            ∙ rw (g.kept, sym (append-nil (take pos o)) ∙ g.done, e) (append_assoc (take at o₀) whole (drop (at + length whole) o₀)),
      )

  -- the last piece is written
  pub grown-last :
      {o o' : List A} {pos pos' : ℕ} (xs : List A)
      → Grown o₀ at whole o pos xs → pos' ≡ pos + length xs → o' ≡ splice o pos xs → (pos' ≡ at + length whole) × (o' ≡ splice o₀ at whole)
  grown-last xs g ep eo = grown-end (grown-more xs (grown-rest-equal (sym (append-nil xs)) g) ep eo)

-- Elements stored in place, one behind the other, are a piece too.
module _ {A : Type 0} where
  pub sets-splice : (d : List A) (at : ℕ) (xs : List A) → at + length xs ≤ length d → sets d at xs ≡ splice d at xs
  unfolding splice
  sets-splice d at xs h = sets-eq xs d at h ∙ append_assoc (take at d) xs (drop (at + length xs) d)

  pub set-splice : (d : List A) (at : ℕ) (x : A) → at < length d → set d at x ≡ splice d at (x ∷ [])
  set-splice d at x h = sets-splice d at (x ∷ []) (omega arith)
