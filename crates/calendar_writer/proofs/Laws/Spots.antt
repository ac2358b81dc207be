-- A piece put where zeros stand: in a list, in a longer one, and in a buffer.
-- Assumes nothing.
use Rattle.std.specs.Prelude.{ℕ, ◌+◌, ◌≤◌, ◌≡◌, refl, List, ◌++◌, length, take, drop}
use Rattle.std.proofs.Common.{sym, ap, ◌∙◌, append_assoc, arith, length-append, length-take-le}
use Rattle.std.proofs.lemmas.List.{length-replicate}
use Rattle.std.proofs.Math.Seq.{take-append_seam, drop-append_seam, drop-append-add}
use Rattle.prelude.specs.Splice.{splice}
use Rattle.calendar.specs.File.{zeros}

-- A list in which the zeros from q on, as many as xs has, become xs.
pub record Spot (old new : List ℕ) (q : ℕ) (xs : List ℕ) : Type 0 where
  pub u : List ℕ
  pub v : List ℕ
  pub long : length u ≡ q
  pub before : old ≡ u ++ (zeros (length xs) ++ v)
  pub after : new ≡ u ++ (xs ++ v)

pub spot_left : {old new : List ℕ} {q : ℕ} {xs : List ℕ} (r : List ℕ) → Spot old new q xs → Spot (old ++ r) (new ++ r) q xs
spot_left r s =
    record {
      u = s.u;
      v = s.v ++ r;
      long = s.long;
      before = rw s.before (simp append_assoc);
      after = rw s.after (simp append_assoc);
    }

pub spot_right : {old new : List ℕ} {q q' : ℕ} {xs : List ℕ} (r : List ℕ) → q' ≡ length r + q → Spot old new q xs → Spot (r ++ old) (r ++ new) q' xs
spot_right r e s =
    record {
      u = r ++ s.u;
      v = s.v;
      long = omega (arith, length-append r s.u, s.long, e);
      before = rw s.before (sym (append_assoc r s.u _));
      after = rw s.after (sym (append_assoc r s.u _));
    }

splice_at : (a z c xs : List ℕ) → length z ≡ length xs → splice (a ++ (z ++ c)) (length a) xs ≡ a ++ (xs ++ c)
unfolding splice
splice_at a z c xs e =
    rw (take-append_seam a (z ++ c), drop-append-add a (z ++ c) (length xs), ← e, drop-append_seam z c)

pub splice_text : (d : List ℕ) (at : ℕ) (s : List ℕ) → splice d at s ≡ take at d ++ (s ++ drop (at + length s) d)
unfolding splice
splice_text d at s = refl

regroup : (t u x v r : List ℕ) → t ++ ((u ++ (x ++ v)) ++ r) ≡ (t ++ u) ++ (x ++ (v ++ r))
regroup t u x v r = simp append_assoc

spot_long : {old new : List ℕ} {q : ℕ} {xs : List ℕ} → Spot old new q xs → length new ≡ length old
spot_long {old} {new} {q} {xs} s =
    rw (s.before, s.after) (simp (length-append, length-replicate))

-- where it stands in a buffer, putting xs there is the same
pub spot_put : {old new : List ℕ} {q : ℕ} {xs : List ℕ} (o : List ℕ) (at : ℕ) {out : List ℕ} → Spot old new q xs → at ≤ length o → out ≡ splice o at old → splice out (at + q) xs ≡ splice o at new
spot_put {old} {new} {q} {xs} o at {out} s h e =
    let t : List ℕ = take at o in
    let r : List ℕ = drop (at + length old) o in
    let a : length (t ++ s.u) ≡ at + q = omega (arith, length-append t s.u, length-take-le at o h, s.long) in
    let before : out ≡ (t ++ s.u) ++ (zeros (length xs) ++ (s.v ++ r)) = e ∙ splice_text o at old ∙ ap (λ (l : List ℕ). t ++ (l ++ r)) s.before ∙ regroup t s.u (zeros (length xs)) s.v r in
    let put = splice_at (t ++ s.u) (zeros (length xs)) (s.v ++ r) xs (length-replicate (length xs) 0) in
    let after : splice o at new ≡ (t ++ s.u) ++ (xs ++ (s.v ++ r)) = splice_text o at new ∙ ap (λ (n : ℕ). t ++ (new ++ drop (at + n) o)) (spot_long s) ∙ ap (λ (l : List ℕ). t ++ (l ++ r)) s.after ∙ regroup t s.u xs s.v r in
    rw (before, ← a) put ∙ sym after
