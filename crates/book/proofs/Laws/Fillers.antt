-- Laws of the bytes after the end record: byte by byte; and an accepted book is a book that ends with its end record, and at most 127 fillers.
-- Assumes nothing.
use Prim.Native.Nat.{ℕ, zero, suc, ◌+◌, ◌-◌, ◌<◌, ◌≤◌}
use Rattle.std.specs.Prelude.{Ok, Err, ◌≡◌, refl, List, ◌∷◌, ◌++◌, take, drop, replicate}
use Rattle.std.proofs.Common.{sym, ◌∙◌, ap, add-one, drop_of_length-le, take-append-drop, drop-cons}
use native.Mathlib.Omega.{arith}
use Rattle.std.proofs.Math.ListN.{length}
use Rattle.prelude.specs.Choice.{if_eq}
use Rattle.prelude.proofs.Laws.Choice.{is_eq, is_ne, is_ge, eq_take, lt_skip}
use Rattle.prelude.specs.Bytes.{byte}
use Rattle.prelude.specs.Refusals.{after_end, refusal_at}
use Rattle.prelude.proofs.Laws.Refusals.{refused_not_fine}
use Rattle.book.specs.Settings.{settings_of, first_record}
use Rattle.book.specs.Walk.{Walk, more, ended, stopped, next_place, walk_from, walk_of}
use Rattle.book.specs.Fillers.{filler, most_fillers, fillers_from, after_end_record, end_in, fillers_of, unfilled, Filled}
use Rattle.book.specs.Books.{accepted, counted, book_of}
use Rattle.book.proofs.Laws.Walk.{At, at_first, walk_met}
use Rattle.book.proofs.Laws.Books.{refused_not_accepted, book_accepted, walk-counted}
use Rattle.book.specs.declared.types.Settings.{Settings}
use Rattle.book.specs.declared.types.Book.{Book}
use Rattle.prelude.specs.Verdicts.{Verdict}

-- one byte on, another byte, the file's end
module _ (f : List ℕ) (p : ℕ) (h : p < length f) where
  filler-step : fillers_from (length f - p) f p ≡ if_eq (byte f p) filler (fillers_from (length f - (p + 1)) f (p + 1)) (Err (refusal_at after_end p))
  unfolding fillers_from
  filler-step = let e : length f - p ≡ suc (length f - (p + 1)) = omega arith in rw e

  pub filler-on : byte f p ≡ filler → fillers_from (length f - p) f p ≡ fillers_from (length f - (p + 1)) f (p + 1)
  filler-on e = filler-step ∙ is_eq e _ _

  pub filler-other : (byte f p ≡ filler → ⊥) → fillers_from (length f - p) f p ≡ Err (refusal_at after_end p)
  filler-other n = filler-step ∙ is_ne n _ _

pub filler_end : (f : List ℕ) (p : ℕ) → length f ≤ p → fillers_from (length f - p) f p ≡ Ok tt
unfolding fillers_from
filler_end f p h = let e : length f - p ≡ 0 = omega arith in rw e

-- nothing after the end record
pub nothing_after : (f : List ℕ) (e : ℕ) → length f ≤ e → after_end_record f e ≡ Ok tt
unfolding after_end_record
nothing_after f e h = is_ge (omega arith) _ _ ∙ filler_end f e h

-- all of them fillers, both ways
fine_fillers : (f : List ℕ) (k p : ℕ) → p + k ≡ length f → fillers_from k f p ≡ Ok tt → drop p f ≡ replicate k filler
unfolding fillers_from
fine_fillers f zero p h e = let l : length f ≤ p = omega arith in drop_of_length-le f l
fine_fillers f (suc k) p h e =
    let q = eq_take (byte f p) filler _ _ refused_not_fine e in
    let r : drop (p + 1) f ≡ replicate k filler = fine_fillers f k (p + 1) (omega arith) q.1 in
    rw (drop-cons f p 0 (omega arith), q.0) (ap (λ (l : List ℕ). filler ∷ l) (rw (add-one p) at r))

pub fillers_fine : (f : List ℕ) (k p : ℕ) → p + k ≡ length f → drop p f ≡ replicate k filler → fillers_from k f p ≡ Ok tt
unfolding fillers_from
fillers_fine f zero p h e = refl
fillers_fine f (suc k) p h e =
    let c : byte f p ∷ drop (suc p) f ≡ filler ∷ replicate k filler = sym (drop-cons f p 0 (omega arith)) ∙ e in
    let b : byte f p ≡ filler = cc in
    let r : drop (suc p) f ≡ replicate k filler = cc in
    is_eq b _ _ ∙ fillers_fine f k (p + 1) (omega arith) (rw (add-one p) r)

-- An accepted walk ends in the file, behind the place where it starts, and what follows is fine.
pub record Ended (f : List ℕ) (at : ℕ) (w : Walk) : Type 0 where
  pub behind : at ≤ end_in w
  pub inside : end_in w ≤ length f
  pub fine : after_end_record f (end_in w) ≡ Ok tt

fine_only : (s : Settings) (n : ℕ) (v : Verdict) {b : Book} → accepted s n v ≡ Ok b → v ≡ Ok tt
unfolding accepted
fine_only s n (Ok tt) e = refl
fine_only s n (Err r) e = absurd (refused_not_accepted e)

pub walk_ended : (f : List ℕ) (n at : ℕ) {b : Book} → At f n at → (w : Walk) → walk_from f n at ≡ w → counted f n w ≡ Ok b → Ended f at w
unfolding counted end_in
walk_ended f n at a (more p w) e c =
    let m = walk_met f n at a e in
    let r : Ended f (next_place f at) w = walk_ended f (suc n) (next_place f at) m.1.1.0 w m.1.1.1 c in
    record { behind = omega (arith, r.behind); inside = r.inside; fine = r.fine }
walk_ended f n at a (ended p) e c =
    let m = walk_met f n at a e in
    record { behind = omega (arith, m.1); inside = omega (arith, m.1, m.0.there); fine = fine_only (settings_of f) n _ c }
walk_ended f n at a (stopped r) e c = absurd (refused_not_accepted c)

pub book_ended : (f : List ℕ) {b : Book} → book_of f ≡ Ok b → Ended f first_record (walk_of f)
unfolding walk_of
book_ended f h = walk_ended f 0 first_record (at_first (book_accepted f h).long) (walk_of f) refl (walk-counted f h)

-- what an accepted book is
pub book_filled : (f : List ℕ) {b : Book} → book_of f ≡ Ok b → Filled f
unfolding unfilled fillers_of after_end_record
book_filled f h =
    let e : Ended f first_record (walk_of f) = book_ended f h in
    let q = lt_skip most_fillers (length f - end_in (walk_of f)) _ _ refused_not_fine e.fine in
    let r : drop (end_in (walk_of f)) f ≡ replicate (length f - end_in (walk_of f)) filler = fine_fillers f _ _ (omega (arith, e.inside)) q.1 in
    record {
      whole = sym (take-append-drop (end_in (walk_of f)) f) ∙ ap (λ (l : List ℕ). take (end_in (walk_of f)) f ++ l) r;
      most = q.0;
    }
