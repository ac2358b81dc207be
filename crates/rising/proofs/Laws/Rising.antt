-- Laws of rising lists: a number is found by its place, and its place by halving or step by step.
-- Assumes nothing.
use Rattle.std.specs.Prelude.{Result, Ok, Err, MatchResult, ℕ, zero, suc, ◌+◌, ◌<◌, ◌≤◌, ◌≡◌, refl, Bool, true, false, List, [], ◌∷◌, length, get_or, eqb, if◌then◌else◌}
use Rattle.std.proofs.Common.{sym, ◌∙◌, arith}
use Rattle.std.specs.List.Sorted.{IsBinarySearchResult}
use Rattle.std.specs.Ordering.{nat_cmp}
use Rattle.std.specs.Result.{is_ok}
use Rattle.std.proofs.lemmas.List.Sorted.{searched}
use Rattle.prelude.specs.Choice.{if_lt, if_eq}
use Rattle.prelude.proofs.Laws.Choice.{is_lt, is_ge, is_eq, is_ne, is_true, is_false, bool_cases, eq_elim, lt_elim}
use Rattle.prelude.proofs.Laws.Tests.{eq_tested}
use Rattle.rising.specs.Rising.{contains, unless_in, Rising, Below, Split}

pub rising_less : {list : List ℕ} → Rising list → (i j : ℕ) → i < j → j < length list → get_or list i 0 < get_or list j 0
rising_less r i zero l h = absurd (omega arith)
rising_less {list} r i (suc j) l h =
    lt_elim {X = Unit {0}} (λ _. get_or list i 0 < get_or list (suc j) 0) i j tt tt
    (λ m. omega (arith, rising_less r i j m (omega arith), r.step j h))
    (λ m. let e : i ≡ j = omega arith in rw e (r.step j h))

pub rising_at_most : {list : List ℕ} → Rising list → (i j : ℕ) → i ≤ j → j < length list → get_or list i 0 ≤ get_or list j 0
rising_at_most {list} r i j l h =
    lt_elim {X = Unit {0}} (λ _. get_or list i 0 ≤ get_or list j 0) i j tt tt (λ m. omega (arith, rising_less r i j m h))
    (λ m. let e : i ≡ j = omega arith in rw e (omega arith))

pub rising_nil : Rising []
rising_nil = record { step = λ i h. absurd (omega arith) }

rising_tail : {x : ℕ} {xs : List ℕ} → Rising (x ∷ xs) → Rising xs
rising_tail r = record { step = λ i h. r.step (suc i) (omega arith) }

-- The halving: the numbers before low are below n, those from high on are not.
pub record Halved (list : List ℕ) (n low high : ℕ) : Type 0 where
  pub less : low ≤ high
  pub most : high ≤ length list
  pub below : (i : ℕ) → i < low → get_or list i 0 < n
  pub above : (i : ℕ) → high ≤ i → i < length list → n ≤ get_or list i 0

pub halved_start : (list : List ℕ) (n : ℕ) → Halved list n 0 (length list)
halved_start list n = record { less = omega arith; most = omega arith; below = λ i l. absurd (omega arith); above = λ i l h. absurd (omega arith) }

module _ {list : List ℕ} {n low high : ℕ} (r : Rising list) (h : Halved list n low high) (m : ℕ) (a : low ≤ m) (b : m < high) where
  pub halved-up : get_or list m 0 < n → Halved list n (m + 1) high
  halved-up l =
      record {
        less = omega arith;
        most = h.most;
        below = λ i k. lt_elim {X = Unit {0}} (λ _. get_or list i 0 < n) i m tt tt (λ j. omega (arith, l, rising_less r i m j (omega (arith, b, h.most)))) (λ j. let q : m ≡ i = omega arith in rw q at l);
        above = h.above;
      }

  pub halved-down : n ≤ get_or list m 0 → Halved list n low m
  halved-down l =
      record {
        less = a;
        most = omega (arith, b, h.most);
        below = h.below;
        above = λ i k j. lt_elim {X = Unit {0}} (λ _. n ≤ get_or list i 0) m i tt tt (λ q. omega (arith, l, rising_less r m i q j)) (λ q. let z : m ≡ i = omega arith in rw z at l);
      }

pub halved_done : {list : List ℕ} {n low high : ℕ} → Halved list n low high → high ≤ low → Split list n low
halved_done h g =
    record { below = record { most = omega (arith, h.less, h.most); each = h.below }; above = λ i l j. h.above i (omega (arith, g, l)) j }

-- Step by step.
pub below_start : (list : List ℕ) (n : ℕ) → Below list n 0
below_start list n = record { most = omega arith; each = λ i l. absurd (omega arith) }

-- what is below a number is below a larger one
pub below_larger : {list : List ℕ} {n m place : ℕ} → n ≤ m → Below list n place → Below list m place
below_larger l b = record { most = b.most; each = λ i h. omega (arith, l, b.each i h) }

module _ {list : List ℕ} {n place : ℕ} (b : Below list n place) where
  pub below_next : place < length list → get_or list place 0 < n → Below list n (place + 1)
  below_next h l =
      record {
        most = omega arith;
        each = λ i k. lt_elim {X = Unit {0}} (λ _. get_or list i 0 < n) i place tt tt (λ j. b.each i j) (λ j. let q : place ≡ i = omega arith in rw q at l);
      }

  pub below-here : Rising list → n ≤ get_or list place 0 → Split list n place
  below-here r l =
      record {
        below = b;
        above = λ i k j. lt_elim {X = Unit {0}} (λ _. n ≤ get_or list i 0) place i tt tt (λ q. omega (arith, l, rising_less r place i q j)) (λ q. let z : place ≡ i = omega arith in rw z at l);
      }

  pub below_end : length list ≤ place → Split list n place
  below_end h = record { below = b; above = λ i k j. absurd (omega arith) }

-- What stands at a number's place.

none_above : (xs : List ℕ) (n : ℕ) → ((i : ℕ) → i < length xs → n < get_or xs i 0) → contains xs n ≡ false
unfolding contains
none_above [] n h = refl
none_above (x ∷ xs) n h =
    let a : n < x = h 0 (omega arith) in
    is_ne (λ y. omega arith) _ _ ∙ none_above xs n (λ i l. h (suc i) (omega arith))

split_tail : {x : ℕ} {xs : List ℕ} {n place : ℕ} → Split (x ∷ xs) n (suc place) → Split xs n place
split_tail s =
    record {
      below = record { most = omega (arith, s.below.most); each = λ i l. s.below.each (suc i) (omega arith) };
      above = λ i l h. s.above (suc i) (omega arith) (omega arith);
    }

pub split-contains : (list : List ℕ) (n place : ℕ) → Rising list → Split list n place → contains list n ≡ if_lt place (length list) (if_eq (get_or list place 0) n true false) false
unfolding contains
split-contains [] n place r s = sym (is_ge (omega arith) _ _)
split-contains (x ∷ xs) n zero r s =
    eq_elim {X = Unit {0}} (λ _. if_eq x n true (contains xs n) ≡ if_lt 0 (length (x ∷ xs)) (if_eq x n true false) false) x n tt tt
    (λ y. is_eq y _ _ ∙ sym (is_lt (omega arith) _ _ ∙ is_eq y _ _))
    (λ d.
    let a : n ≤ x = s.above 0 (omega arith) (omega arith) in
    let b : n < x = lt_elim {X = Unit {0}} (λ _. n < x) n x tt tt (λ l. l) (λ g. absurd (d (omega arith))) in
    is_ne d _ _ ∙ none_above xs n (λ i l. let c = rising_less r 0 (suc i) (omega arith) (omega arith) in omega arith)
    ∙ sym (is_lt (omega arith) _ _ ∙ is_ne d _ _))
split-contains (x ∷ xs) n (suc place) r s =
    let a : x < n = s.below.each 0 (omega arith) in
    is_ne (λ y. omega arith) _ _ ∙ split-contains xs n place (rising_tail r) (split_tail s)
    ∙ lt_elim {X = Unit {0}} (λ _. if_lt place (length xs) (if_eq (get_or xs place 0) n true false) false ≡ if_lt (suc place) (length (x ∷ xs)) (if_eq (get_or xs place 0) n true false) false) place (length xs) tt tt
    (λ l. is_lt l _ _ ∙ sym (is_lt (omega arith) _ _)) (λ g. is_ge g _ _ ∙ sym (is_ge (omega arith) _ _))

-- A number between that of a place and the next one stands nowhere.
pub split_without : {list : List ℕ} {n place : ℕ} → Rising list → Split list n place → (place < length list → n < get_or list place 0) → contains list n ≡ false
split_without {list} {n} {place} r s h =
    split-contains list n place r s
    ∙ lt_elim (λ z. z ≡ false) place (length list) _ _ (λ l. is_ne (λ e. omega (arith, h l)) _ _) (λ _. refl)

-- A choice between true and false is the test itself.
pub eq_test : (a b : ℕ) → if_eq a b true false ≡ eqb a b
eq_test a b = eq_tested a b true false ∙ by (eqb a b)
  where
    by : (t : Bool) → (if t then true else false) ≡ t
    by true = refl
    by false = refl

-- What the library's search finds.
pub search-contains :
    (list : List ℕ) (n : ℕ) (r : Result ℕ ℕ) → Rising list → IsBinarySearchResult (λ y. nat_cmp y n) list r → is_ok r ≡ contains list n
search-contains list n r s h = by r (searched list n r h (rising_at_most s))
  where
    by :
        (r : Result ℕ ℕ)
        → MatchResult r (λ i. (i < length list) × (get_or list i 0 ≡ n)) (λ i. (i ≤ length list) × ((k : ℕ) → k < i → get_or list k 0 < n) × ((k : ℕ) → i ≤ k → k < length list → n < get_or list k 0))
        → is_ok r ≡ contains list n
    by (Ok i) f =
        let b : Below list n i = record { most = omega arith; each = λ k l. rw f.1 at (rising_less s k i l f.0) } in
        sym (split-contains list n i s (below-here b s (omega arith)) ∙ is_lt f.0 _ _ ∙ is_eq f.1 _ _)
    by (Err i) f =
        let b : Below list n i = record { most = f.0; each = f.1 } in
        sym (split_without s (record { below = b; above = λ k l h. omega (arith, f.2 k l h) }) (λ h. f.2 i (omega arith) h))

-- The test of what does not stand in a list.
pub unless_nil : (n : ℕ) (test : Bool) → unless_in [] n test ≡ test
unfolding contains
unless_nil n test = is_false refl _ _

pub unless_failed : (list : List ℕ) (n : ℕ) {test : Bool} → test ≡ false → unless_in list n test ≡ false
unless_failed list n e = bool_cases (contains list n) (λ t. is_true t _ _) (λ t. is_false t _ _ ∙ e)

pub unless_there : (list : List ℕ) (n : ℕ) (test : Bool) → contains list n ≡ true → unless_in list n test ≡ false
unless_there list n test t = is_true t _ _

pub unless_absent : (list : List ℕ) (n : ℕ) (test : Bool) → contains list n ≡ false → unless_in list n test ≡ test
unless_absent list n test t = is_false t _ _

pub contains-none : (list : List ℕ) (n : ℕ) → length list ≡ 0 → contains list n ≡ false
unfolding contains
contains-none [] n h = refl
contains-none (x ∷ xs) n h = absurd (omega arith)
