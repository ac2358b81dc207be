-- A buffer that is filled from the end back, piece by piece: `Backed`, the counterpart of the prelude's `Grown`.
-- Assumes nothing.
use Rattle.std.specs.Prelude.{ℕ, ◌+◌, ◌≤◌, ◌≡◌, refl, List, [], ◌++◌, take}
use Rattle.std.proofs.Common.{sym, ◌∙◌, append-nil, append_assoc, arith}
use Rattle.std.proofs.Math.Nat.{add_assoc}
use Rattle.std.proofs.Math.ListN.{length, drop, length-append}
use Rattle.std.proofs.Math.Seq.{drop_at, length-take-le}
use Rattle.prelude.specs.Splice.{splice}
use Rattle.prelude.proofs.Laws.Splice.{splice-nil, length-splice, take-splice-before}

-- `whole` is to be written over o₀ from at on. `front` is left of it, up to pos, and what comes behind stands in o.
pub record Backed {A : Type 0} (o₀ : List A) (at : ℕ) (whole : List A) (o : List A) (pos : ℕ) (front : List A) : Type 0 where
  pub behind : List A
  pub parts : whole ≡ front ++ behind
  pub put : o ≡ splice o₀ pos behind
  pub here : pos ≡ at + length front
  pub room : pos + length behind ≤ length o₀
  pub long : length o ≡ length o₀

module _ {A : Type 0} where
  -- one write, and the next where it began, are one write of both
  pub splice_front : (d : List A) (at : ℕ) (a b : List A) → at + length a + length b ≤ length d → splice (splice d (at + length a) b) at a ≡ splice d at (a ++ b)
  unfolding splice
  splice_front d at a b h =
      let e = length-take-le (at + length a) d (omega arith) in
      let f = add_assoc at (length a) (length b) in
      rw (take-splice-before d (at + length a) b at (omega arith) (omega arith), drop_at (take (at + length a) d) (b ++ drop (at + length a + length b) d) (at + length a) e, length-append a b, f)
      (simp append_assoc)

  pub backed-none : {o : List A} {at pos : ℕ} {whole : List A} → at + length whole ≤ length o → pos ≡ at + length whole → Backed o at whole o pos whole
  backed-none {o} {at} {pos} {whole} h e =
      record { behind = []; parts = sym (append-nil whole); put = sym (splice-nil o pos); here = e; room = omega arith; long = refl }

module _ {A : Type 0} {o₀ : List A} {at : ℕ} {whole : List A} where
  -- the piece xs is written before what stands there
  pub backed-before :
      {o o' : List A} {pos pos' : ℕ} {front : List A} (xs : List A)
      → Backed o₀ at whole o pos (front ++ xs) → pos ≡ pos' + length xs → o' ≡ splice o pos' xs → Backed o₀ at whole o' pos' front
  backed-before {o} {o'} {pos} {pos'} {front} xs g ep eo =
      let b = g.behind in
      let l = length-append front xs in
      let m = length-append xs b in
      let all : o' ≡ splice o₀ pos' (xs ++ b) = eo ∙ rw (g.put, ep) (splice_front o₀ pos' xs b (omega arith)) in
      record {
        behind = xs ++ b;
        parts = g.parts ∙ append_assoc front xs b;
        put = all;
        here = omega arith;
        room = omega arith;
        long = rw all (length-splice o₀ pos' (xs ++ b) (omega arith));
      }

  -- all is written
  pub backed-all : {o : List A} {pos : ℕ} → Backed o₀ at whole o pos [] → o ≡ splice o₀ at whole
  backed-all {o} {pos} g =
      let e : pos ≡ at = omega arith in
      g.put ∙ rw (e, ← g.parts)
