-- What a page is, as a reader would say it: each record that passes stands in it once, nothing else does; minutes rise; equal minutes keep the book's order.
-- Assumes nothing.
use Rattle.std.specs.Prelude.{ℕ, zero, suc, ◌+◌, ◌<◌, ◌≡◌, refl, Bool, true, eqb, length, get_or}
use Rattle.std.proofs.Common.{sym, ◌∙◌, ap, arith, zero-add, eq-eqb, ne_eqb}
use mathlib.Core.List.{List, [], ◌∷◌, map, Memᴰ}
use Rattle.prelude.specs.Choice.{if_b}
use Rattle.prelude.proofs.Laws.Choice.{is_true, is_false, bool_cases}
use Rattle.sorting.specs.Keep.{keep}
use Rattle.sorting.proofs.Laws.Keep.{keep-nil, keep-yes, keep-no, keep-member, member-keep, keep-keep-comm}
use Rattle.sorting.specs.Order.{sort, Sorted}
use Rattle.sorting.proofs.Laws.Order.{sorted_sort, sort-stable, sort-nil, sort-cons, insert-nil, keep-sort, sort-member, member-sort}
use Rattle.book.specs.Books.{entry_at, places_of, entries_of}
use Rattle.pages.specs.Pages.{Numbered, numbered_from, numbered, start_of, page_of}
use Rattle.pages.specs.Invariants.{record_at}

module _ (p : Numbered → Bool) (f : List ℕ) where
  -- nothing else stands in it
  pub page-passes : {x : Numbered} → Memᴰ x (page_of p f) → Memᴰ x (numbered f) × (p x ≡ true)
  unfolding page_of
  page-passes m = keep-member p (sort-member start_of m)

  -- each that passes stands in it
  pub page-holds : {x : Numbered} → Memᴰ x (numbered f) → p x ≡ true → Memᴰ x (page_of p f)
  unfolding page_of
  page-holds m h = member-sort start_of (member-keep p m h)

  -- "by start minute"
  pub page-sorted : Sorted start_of (page_of p f)
  unfolding page_of
  page-sorted = sorted_sort start_of (keep p (numbered f))

  -- "then by place in the book": of one minute, as in the book
  pub page-stable : (minute : ℕ) → keep (λ x. eqb (start_of x) minute) (page_of p f) ≡ keep (λ x. eqb (start_of x) minute) (keep p (numbered f))
  unfolding page_of
  page-stable minute = sort-stable start_of (keep p (numbered f)) minute

-- the records of a number k
abbrev pub of_number : ℕ → Numbered → Bool
of_number k x = eqb x.number k

none_of : (f : List ℕ) (n k : ℕ) (ps : List ℕ) → k < n → keep (of_number k) (numbered_from n (map (entry_at f) ps)) ≡ []
unfolding numbered_from
none_of f n k [] h = keep-nil (of_number k)
none_of f n k (p ∷ ps) h =
    keep-no (of_number k) _ _ (ne_eqb n k (λ e. omega arith)) ∙ none_of f (suc n) k ps (omega arith)

one_of : (f : List ℕ) (n i : ℕ) (ps : List ℕ) → i < length ps → keep (of_number (n + i)) (numbered_from n (map (entry_at f) ps)) ≡ record_at f (n + i) (get_or ps i 0) ∷ []
unfolding numbered_from
one_of f n i [] h = absurd (let z : ◌≡◌ {A = ℕ} 0 1 = omega arith in omega arith)
one_of f n zero (p ∷ ps) h =
    let e : n + 0 ≡ n = omega arith in
    rw e (keep-yes (of_number n) (record_at f n p) _ (eq-eqb n n refl) ∙ ap (λ (l : List Numbered). record_at f n p ∷ l) (none_of f (suc n) n ps (omega arith)))
one_of f n (suc i) (p ∷ ps) h =
    let e : n + suc i ≡ suc n + i = omega arith in
    rw e (keep-no (of_number (suc n + i)) (record_at f n p) _ (ne_eqb n (suc n + i) (λ q. omega arith)) ∙ one_of f (suc n) i ps (omega arith))

-- a book's records have one record of each number
pub numbered_once : (f : List ℕ) (k : ℕ) → k < length (places_of f) → keep (of_number k) (numbered f) ≡ record_at f k (get_or (places_of f) k 0) ∷ []
unfolding numbered entries_of
numbered_once f k h = rw (zero-add k) at (one_of f 0 k (places_of f) h)

-- once: of the record of each number the page has just one line where it passes, and none where not
pub page_once :
    (p : Numbered → Bool) (f : List ℕ) (k : ℕ) → k < length (places_of f)
    → keep (of_number k) (page_of p f) ≡ if_b (p (record_at f k (get_or (places_of f) k 0))) (record_at f k (get_or (places_of f) k 0) ∷ []) []
unfolding page_of
page_once p f k h =
    let x = record_at f k (get_or (places_of f) k 0) in
    keep-sort start_of (of_number k) (keep p (numbered f))
    ∙ ap (sort start_of) (keep-keep-comm (of_number k) p (numbered f) ∙ ap (keep p) (numbered_once f k h))
    ∙ bool_cases (p x)
    (λ t. ap (sort start_of) (keep-yes p x [] t ∙ ap (λ (l : List Numbered). x ∷ l) (keep-nil p)) ∙ sort-cons start_of x [] ∙ rw (sort-nil start_of) (insert-nil start_of x) ∙ sym (is_true t _ _))
    (λ t. ap (sort start_of) (keep-no p x [] t ∙ keep-nil p) ∙ sort-nil start_of ∙ sym (is_false t _ _))
