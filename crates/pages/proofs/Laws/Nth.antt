-- The element at a number: of any list, and of a book's records.
-- Assumes nothing.
use Prim.Native.Nat.{ℕ, zero, suc, ◌+◌, ◌<◌, ◌≤◌}
use Rattle.std.proofs.Math.Path.{◌≡◌, refl}
use Rattle.std.proofs.Common.{sym, ◌∙◌, ap, add-zero, zero-add, length-take-le, get_or-take}
use Rattle.std.specs.Prelude.{Bool, length, get_or, take}
use mathlib.Core.List.{List, [], ◌∷◌, map}
use native.Mathlib.Omega.{arith}
use Rattle.std.proofs.lemmas.List.{length-map}
use Rattle.book.specs.Books.{entry_at, places_of, entries_of, most_book_bytes}
use Rattle.book.specs.declared.types.Entry.{Entry}
use Rattle.book.specs.Settings.{first_record}
use Rattle.pages.specs.Pages.{Numbered, numbered_from, numbered, page_of, nth}
use Rattle.pages.specs.Codes.{code, decode}
use Rattle.pages.proofs.Laws.Decoding.{page-decoded}
use Rattle.pages.specs.Invariants.{record_at}

module _ {A X : Type 0} (none : X) (some : A → X) where
  pub nth_in : (xs : List A) (k : ℕ) (d : A) → k < length xs → nth xs k none some ≡ some (get_or xs k d)
  unfolding nth
  nth_in [] k d h = absurd (let z : ◌≡◌ {A = ℕ} 0 1 = omega arith in omega arith)
  nth_in (x ∷ xs) zero d h = refl
  nth_in (x ∷ xs) (suc k) d h = nth_in xs k d (omega arith)

  pub nth_past : (xs : List A) (k : ℕ) → length xs ≤ k → nth xs k none some ≡ none
  unfolding nth
  nth_past [] k h = refl
  nth_past (x ∷ xs) zero h = absurd (let z : ◌≡◌ {A = ℕ} 0 1 = omega arith in omega arith)
  nth_past (x ∷ xs) (suc k) h = nth_past xs k (omega arith)

  pub nth-map : {B : Type 0} (g : B → A) (xs : List B) (k : ℕ) → nth (map g xs) k none some ≡ nth xs k none (λ x. some (g x))
  unfolding nth
  nth-map g [] k = refl
  nth-map g (x ∷ xs) zero = refl
  nth-map g (x ∷ xs) (suc k) = nth-map g xs k

-- a function of the element at a number
pub nth_through : {A X Y : Type 0} (h : X → Y) (xs : List A) (k : ℕ) (none : X) (some : A → X) → h (nth xs k none some) ≡ nth xs k (h none) (λ x. h (some x))
unfolding nth
nth_through h [] k none some = refl
nth_through h (x ∷ xs) zero none some = refl
nth_through h (x ∷ xs) (suc k) none some = nth_through h xs k none some

pub length_from : (n : ℕ) (es : List Entry) → length (numbered_from n es) ≡ length es
unfolding numbered_from
length_from n [] = refl
length_from n (e ∷ es) = ap suc (length_from (suc n) es)

pub length-numbered : (f : List ℕ) → length (numbered f) ≡ length (places_of f)
unfolding numbered entries_of
length-numbered f = length_from 0 (map (entry_at f) (places_of f)) ∙ length-map (places_of f) (entry_at f)

module _ (f : List ℕ) {X : Type 0} (none : X) (some : Numbered → X) where
  nth-from : (n : ℕ) (ps : List ℕ) (k : ℕ) → k < length ps → nth (numbered_from n (map (entry_at f) ps)) k none some ≡ some (record_at f (n + k) (get_or ps k 0))
  unfolding nth numbered_from
  nth-from n [] k h = absurd (let z : ◌≡◌ {A = ℕ} 0 1 = omega arith in omega arith)
  nth-from n (p ∷ ps) zero h = rw (add-zero n)
  nth-from n (p ∷ ps) (suc k) h =
      let e : suc n + k ≡ n + suc k = omega arith in nth-from (suc n) ps k (omega arith) ∙ rw e

  -- the k-th record of a book stands at the k-th place
  pub nth-record : (k : ℕ) → k < length (places_of f) → nth (numbered f) k none some ≡ some (record_at f k (get_or (places_of f) k 0))
  unfolding numbered entries_of
  nth-record k h = nth-from 0 (places_of f) k h ∙ rw (zero-add k)

  pub nth-no-record : (k : ℕ) → length (places_of f) ≤ k → nth (numbered f) k none some ≡ none
  nth-no-record k h = nth_past none some (numbered f) k (let e = length-numbered f in omega arith)

-- the k-th line of a page, from its codes in front of a list
module _ (f : List ℕ) (long : first_record ≤ length f) (size : length f ≤ most_book_bytes) (p : Numbered → Bool) (codes : List ℕ) (n : ℕ) (h : n ≤ length codes) (e : take n codes ≡ map code (page_of p f)) where
  from-codes : page_of p f ≡ map (decode f) (take n codes)
  from-codes = sym (page-decoded f long size p) ∙ ap (map (decode f)) (sym e)

  pub nth-code : {X : Type 0} (none : X) (some : Numbered → X) (k : ℕ) → k < n → nth (page_of p f) k none some ≡ some (decode f (get_or codes k 0))
  nth-code none some k l =
      ap (λ (xs : List Numbered). nth xs k none some) from-codes
      ∙ nth-map none some (decode f) (take n codes) k
      ∙ nth_in none (λ x. some (decode f x)) (take n codes) k 0 (let q = length-take-le n codes h in omega arith)
      ∙ ap (λ (x : ℕ). some (decode f x)) (get_or-take n codes k 0 l)

  pub nth-no-code : {X : Type 0} (none : X) (some : Numbered → X) (k : ℕ) → n ≤ k → nth (page_of p f) k none some ≡ none
  nth-no-code none some k l =
      ap (λ (xs : List Numbered). nth xs k none some) from-codes
      ∙ nth_past none some (map (decode f) (take n codes)) k
      (let q = length-take-le n codes h in let m = length-map (take n codes) (decode f) in omega arith)
