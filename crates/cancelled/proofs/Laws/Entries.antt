-- Laws of one entry: when it is bad, and a record's seventeenth by the entry 16 places before it, since in a list that rises up to it a
-- record's entries stand together.
-- Assumes nothing.
use Rattle.std.specs.Prelude.{ℕ, suc, ◌+◌, ◌-◌, ◌<◌, ◌≤◌, ◌≡◌, refl, List, [], ◌∷◌, ◌++◌, length, get_or, take, drop}
use Rattle.std.proofs.Common.{sym, ◌∙◌, ap, arith, take-append-drop, length-drop, get_or-take, get_or-drop, length-take-le}
use Rattle.std.proofs.Math.Bool.{true, false, true≢false}
use Rattle.std.proofs.lemmas.Bool.{false≢true}
use Rattle.prelude.specs.Choice.{if_lt, if_eq}
use Rattle.prelude.proofs.Laws.Choice.{is_lt, is_ge, is_eq, is_ne, is_true, is_false, lt_elim, eq_elim, b_elim, lt_take, b_take}
use Rattle.cancelled.specs.Cancelled.{cancelled_number, rises_at, names_sitting, count_for, most_cancelled, is_beyond, entry_bad}

-- an entry is bad where one of the rules is broken, and not else
module _ (f list : List ℕ) (i : ℕ) where
  pub bad-falling : rises_at list i ≡ false → entry_bad f list i ≡ true
  unfolding entry_bad
  bad-falling h = is_false h _ _

  pub bad-other : names_sitting f (get_or list i 0) ≡ false → entry_bad f list i ≡ true
  unfolding entry_bad
  bad-other h = b_elim (λ z. z ≡ true) (rises_at list i) _ _ (λ _. is_false h _ _) (λ _. refl)

  pub bad-beyond : is_beyond list i ≡ true → entry_bad f list i ≡ true
  unfolding entry_bad
  bad-beyond h = b_elim (λ z. z ≡ true) (rises_at list i) _ _ (λ _. b_elim (λ z. z ≡ true) (names_sitting f (get_or list i 0)) _ _ (λ _. h) (λ _. refl)) (λ _. refl)

  pub not-bad : rises_at list i ≡ true → names_sitting f (get_or list i 0) ≡ true → is_beyond list i ≡ false → entry_bad f list i ≡ false
  unfolding entry_bad
  not-bad a b c = is_true a _ _ ∙ is_true b _ _ ∙ c

  pub not-bad-facts : entry_bad f list i ≡ false → (rises_at list i ≡ true) × (names_sitting f (get_or list i 0) ≡ true) × (is_beyond list i ≡ false)
  unfolding entry_bad
  not-bad-facts h =
      let a = b_take (rises_at list i) _ _ true≢false h in
      let b = b_take (names_sitting f (get_or list i 0)) _ _ true≢false a.1 in
      (a.0, b.0, b.1)

-- an entry that rises
pub rises_less : (list : List ℕ) (i : ℕ) → rises_at list (suc i) ≡ true → get_or list i 0 < get_or list (suc i) 0
unfolding rises_at
rises_less list i h =
    let q = sym (is_ne (omega arith) _ _) ∙ h in
    let e : suc i - 1 ≡ i = omega arith in
    rw e at (lt_take (get_or list (suc i - 1) 0) (get_or list (suc i) 0) _ _ false≢true q).0

-- counting a record's entries
pub count_for_most : (number : ℕ) (xs : List ℕ) → count_for number xs ≤ length xs
unfolding count_for
count_for_most number [] = omega arith
count_for_most number (x ∷ xs) =
    let h = count_for_most number xs in
    eq_elim (λ z. z ≤ suc (length xs)) (cancelled_number x) number _ _ (λ _. omega arith) (λ _. omega arith)

count_for_append : (number : ℕ) (xs ys : List ℕ) → count_for number (xs ++ ys) ≡ count_for number xs + count_for number ys
unfolding count_for
count_for_append number [] ys = omega arith
count_for_append number (x ∷ xs) ys =
    let h = count_for_append number xs ys in
    eq_elim (λ z. if_eq (cancelled_number x) number (suc (count_for number (xs ++ ys))) (count_for number (xs ++ ys)) ≡ z + count_for number ys) (cancelled_number x) number _ _
    (λ e. is_eq e _ _ ∙ omega arith) (λ n. is_ne n _ _ ∙ h)

count_for-none : (number : ℕ) (xs : List ℕ) → ((j : ℕ) → j < length xs → cancelled_number (get_or xs j 0) ≡ number → ⊥) → count_for number xs ≡ 0
unfolding count_for
count_for-none number [] h = refl
count_for-none number (x ∷ xs) h = is_ne (h 0 (omega arith)) _ _ ∙ count_for-none number xs (λ j l. h (suc j) (omega arith))

count_for_all : (number : ℕ) (xs : List ℕ) → ((j : ℕ) → j < length xs → cancelled_number (get_or xs j 0) ≡ number) → count_for number xs ≡ length xs
unfolding count_for
count_for_all number [] h = refl
count_for_all number (x ∷ xs) h = is_eq (h 0 (omega arith)) _ _ ∙ ap suc (count_for_all number xs (λ j l. h (suc j) (omega arith)))

-- A record's seventeenth, where the list rises up to the entry.
module _ (list : List ℕ) (i : ℕ) (inside : i < length list) (rises : (a b : ℕ) → a < b → b ≤ i → get_or list a 0 < get_or list b 0) where
  abbrev number : ℕ
  number = cancelled_number (get_or list i 0)

  abbrev before : List ℕ
  before = take i list

  long : length before ≡ i
  long = length-take-le i list (omega arith)

  at_most : (a b : ℕ) → a ≤ b → b ≤ i → cancelled_number (get_or list a 0) ≤ cancelled_number (get_or list b 0)
  at_most a b l h =
      lt_elim {X = Unit {0}} (λ _. cancelled_number (get_or list a 0) ≤ cancelled_number (get_or list b 0)) a b tt tt (λ m. omega (arith, rises a b m h)) (λ m. let e : a ≡ b = omega arith in rw e (omega arith))

  parts : (k : ℕ) → count_for number before ≡ count_for number (take k before) + count_for number (drop k before)
  parts k = ap (count_for number) (sym (take-append-drop k before)) ∙ count_for_append number (take k before) (drop k before)

  -- the 16 before it are all of its record
  together : 16 ≤ i → cancelled_number (get_or list (i - 16) 0) ≡ number → 16 ≤ count_for number before
  together h e =
      let m = i - 16 in
      let l : length (drop m before) ≡ 16 = length-drop m before ∙ omega (arith, long) in
      let all : count_for number (drop m before) ≡ length (drop m before) =
      count_for_all number (drop m before)
      (λ j k. ap (λ (z : ℕ). cancelled_number z) (get_or-drop m before j 0 ∙ get_or-take i list (m + j) 0 (omega arith)) ∙ omega (arith, at_most m (m + j) (omega arith) (omega arith), at_most (m + j) i (omega arith) (omega arith))) in
      omega (arith, parts m, all, l)

  -- none of those up to 16 places before it is
  apart : 16 ≤ i → (cancelled_number (get_or list (i - 16) 0) ≡ number → ⊥) → count_for number before < 16
  apart h n =
      let m = i - 16 + 1 in
      let l : length (drop m before) ≡ 15 = length-drop m before ∙ omega (arith, long) in
      let less : cancelled_number (get_or list (i - 16) 0) < number =
      lt_elim {X = Unit {0}} (λ _. cancelled_number (get_or list (i - 16) 0) < number) (cancelled_number (get_or list (i - 16) 0)) number tt tt (λ z. z) (λ z. absurd (n (omega (arith, z, at_most (i - 16) i (omega arith) (omega arith))))) in
      let short : length (take m before) ≡ m = length-take-le m before (omega (arith, long)) in
      let none : count_for number (take m before) ≡ 0 =
      count_for-none number (take m before)
      (λ j k e. let q : get_or (take m before) j 0 ≡ get_or list j 0 = get_or-take m before j 0 (omega arith) ∙ get_or-take i list j 0 (omega arith) in omega (arith, less, at_most j (i - 16) (omega arith) (omega arith), sym (ap (λ (z : ℕ). cancelled_number z) q) ∙ e)) in
      omega (arith, parts m, none, count_for_most number (drop m before), l)

  pub beyond-back : is_beyond list i ≡ if_lt i most_cancelled false (if_eq (cancelled_number (get_or list (i - most_cancelled) 0)) (cancelled_number (get_or list i 0)) true false)
  unfolding is_beyond
  beyond-back =
      lt_elim (λ z. if_lt (count_for number before) 16 false true ≡ z) i 16 _ _
      (λ h. is_lt (omega (arith, long, count_for_most number before)) _ _)
      (λ h. eq_elim (λ z. if_lt (count_for number before) 16 false true ≡ z) (cancelled_number (get_or list (i - 16) 0)) number _ _
      (λ e. is_ge (together h e) _ _) (λ n. is_lt (apart h n) _ _))
