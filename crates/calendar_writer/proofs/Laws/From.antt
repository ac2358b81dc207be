-- What stands in a file from a place on: pieces one after the other, read without looking back.
-- Assumes nothing.
use Rattle.std.specs.Prelude.{ℕ, ◌+◌, ◌-◌, ◌<◌, ◌≤◌, ◌≡◌, refl, List, [], ◌∷◌, ◌++◌, length, take, drop}
use Rattle.std.proofs.Common.{sym, ap, ◌∙◌, arith, add-zero, length-append, length-drop, drop-drop}
use Rattle.std.proofs.Math.Seq.{drop-append_seam, take-append_seam}
use Rattle.prelude.specs.Bytes.{byte, word, part, le16}
use Rattle.prelude.proofs.Laws.Bytes.{length-le16, word-le16, byte-drop, word-drop}

-- from p on the file f is xs
pub record From (f : List ℕ) (p : ℕ) (xs : List ℕ) : Type 0 where
  pub rest : drop p f ≡ xs
  pub place : p ≤ length f

pub from_start : (f : List ℕ) → From f 0 f
from_start f = record { rest = refl; place = omega arith }

module _ {f : List ℕ} {p : ℕ} {xs : List ℕ} (h : From f p xs) where
  -- the same, written otherwise
  pub from-recast : {ys : List ℕ} → xs ≡ ys → From f p ys
  from-recast e = record { rest = h.rest ∙ e; place = h.place }

  pub from-place-equal : {q : ℕ} → p ≡ q → From f q xs
  from-place-equal e = rw e at h

  -- where the file ends
  pub whole : p + length xs ≡ length f
  whole = let l : length f - p ≡ length xs = sym (length-drop p f) ∙ ap length h.rest in omega arith

module _ {f : List ℕ} {p : ℕ} where
  -- behind the first piece
  pub from-skip : (xs : List ℕ) {ys : List ℕ} → From f p (xs ++ ys) → From f (p + length xs) ys
  from-skip xs {ys} h =
      let l : p + length (xs ++ ys) ≡ length f = whole h in
      record {
        rest = sym (drop-drop (length xs) p f) ∙ ap (drop (length xs)) h.rest ∙ drop-append_seam xs ys;
        place = omega (arith, length-append xs ys);
      }

  -- the first piece as a part of the file
  pub part-here : (xs ys : List ℕ) → From f p (xs ++ ys) → part f p (length xs) ≡ xs
  part-here xs ys h = ap (take (length xs)) h.rest ∙ take-append_seam xs ys

  -- a byte, and what stands behind it
  pub byte-here : {x : ℕ} {ys : List ℕ} → From f p (x ∷ ys) → (byte f p ≡ x) × From f (p + 1) ys
  byte-here {x} {ys} h =
      (ap (byte f) (sym (add-zero p)) ∙ sym (byte-drop f p 0) ∙ ap (λ (l : List ℕ). byte l 0) h.rest, from-skip (x ∷ []) h)

  -- a number of two bytes, and what stands behind it
  pub next_word : (n : ℕ) {ys : List ℕ} → From f p (le16 n ++ ys) → From f (p + 2) ys
  next_word n {ys} h = from-place-equal (from-skip (le16 n) h) (ap (λ (k : ℕ). p + k) (length-le16 n))

  pub word-here : (n : ℕ) {ys : List ℕ} → n < 65536 → From f p (le16 n ++ ys) → (word f p ≡ n) × From f (p + 2) ys
  word-here n {ys} l h =
      (ap (λ (q : ℕ). word f q) (sym (add-zero p)) ∙ sym (word-drop f p 0) ∙ ap (λ (l : List ℕ). word l 0) h.rest ∙ word-le16 n ys l, next_word n h)
