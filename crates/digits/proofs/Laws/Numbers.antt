-- Laws of numbers as words: byte by byte, of what `decimal` prints, and of the comparison with small numbers.
-- Assumes nothing.
use Rattle.std.specs.Prelude.{ℕ, ◌+◌, ◌-◌, ◌*◌, ◌/◌, ◌%◌, ◌<◌, ◌≤◌, ◌≡◌, refl, ◌↔◌, true, false, List, [], ◌∷◌, ◌++◌, length, drop}
use Rattle.std.proofs.Common.{◌∙◌, arith, add-one, drop_of_length-le, drop-cons}
use Rattle.std.specs.Char.{is_ascii_digit}
use Rattle.std.specs.List.{list_all}
use Rattle.std.proofs.lemmas.Bool.{le-leb, lt-leb}
use Rattle.prelude.proofs.Laws.Choice.{is_lt, is_ge, is_eq, is_ne, lt_elim, lt_skip, constructors_differ}
use Rattle.prelude.specs.Bytes.{byte}
use Rattle.digits.specs.Digits.{decimal, value_from, value, all_digits, is_number, capped}
use Rattle.digits.proofs.Laws.Decimal.{decimal_one, decimal_more, decimal_ind, length_positive}

-- The value from place i on.
pub value_is : (w : List ℕ) → value w ≡ value_from 0 w
unfolding value
value_is w = refl

pub value_next : (w : List ℕ) (v i : ℕ) → i < length w → value_from v (drop i w) ≡ value_from (10 * v + (byte w i - 48)) (drop (i + 1) w)
unfolding value_from
value_next w v i h = rw (drop-cons w i 0 h, add-one i)

pub value_end : (w : List ℕ) (v i : ℕ) → length w ≤ i → value_from v (drop i w) ≡ v
unfolding value_from
value_end w v i h = rw (drop_of_length-le w h)

-- It never falls.
pub value_grows : (v : ℕ) (xs : List ℕ) → v ≤ value_from v xs
unfolding value_from
value_grows v [] = omega arith
value_grows v (x ∷ xs) = let l = value_grows (10 * v + (x - 48)) xs in omega arith

value_append : (v : ℕ) (xs ys : List ℕ) → value_from v (xs ++ ys) ≡ value_from (value_from v xs) ys
unfolding value_from
value_append v [] ys = refl
value_append v (x ∷ xs) ys = value_append (10 * v + (x - 48)) xs ys

-- A leading zero counts nothing.
pub value-zero : (w : List ℕ) → value (48 ∷ w) ≡ value w
unfolding value value_from
value-zero w = refl

-- What was printed is read back.
pub value-decimal : (n : ℕ) → value (decimal n) ≡ n
unfolding value value_from
value-decimal =
    decimal_ind (λ n. value_from 0 (decimal n) ≡ n)
    (λ n h. rw (decimal_one h) (omega arith))
    (λ n h e. rw (decimal_more h, value_append 0 (decimal (n / 10)), e) (omega arith))

-- The test of a word, whole and from place i on.
pub number_empty : (w : List ℕ) → length w ≡ 0 → is_number w ≡ false
unfolding is_number
number_empty w h = is_eq h _ _

pub number_other : (w : List ℕ) → (length w ≡ 0 → ⊥) → is_number w ≡ all_digits w
unfolding is_number
number_other w h = is_ne h _ _

pub digits_low : (w : List ℕ) (i : ℕ) → i < length w → byte w i < 48 → all_digits (drop i w) ≡ false
unfolding all_digits
digits_low w i h l = rw (drop-cons w i 0 h) (is_lt l _ _)

pub digits_high : (w : List ℕ) (i : ℕ) → i < length w → 48 ≤ byte w i → 57 < byte w i → all_digits (drop i w) ≡ false
unfolding all_digits
digits_high w i h l m = rw (drop-cons w i 0 h) (is_ge l _ _ ∙ is_lt m _ _)

pub digits_next : (w : List ℕ) (i : ℕ) → i < length w → 48 ≤ byte w i → byte w i ≤ 57 → all_digits (drop i w) ≡ all_digits (drop (i + 1) w)
unfolding all_digits
digits_next w i h l m = rw (drop-cons w i 0 h, add-one i) (is_ge l _ _ ∙ is_ge m _ _)

pub digits_end : (w : List ℕ) (i : ℕ) → length w ≤ i → all_digits (drop i w) ≡ true
unfolding all_digits
digits_end w i h = rw (drop_of_length-le w h)

-- It is the library's test of each byte.
pub digits_all : (xs : List ℕ) → list_all is_ascii_digit xs ≡ all_digits xs
unfolding all_digits
digits_all [] = refl
digits_all (x ∷ xs) =
    lt_elim (λ z. list_all is_ascii_digit (x ∷ xs) ≡ z) x 48 _ _ (λ l. simp (lt-leb 48 x l))
    (λ g. lt_elim (λ z. list_all is_ascii_digit (x ∷ xs) ≡ z) 57 x _ _ (λ l. simp (le-leb 48 x g, lt-leb x 57 l)) (λ h. simp (le-leb 48 x g, le-leb x 57 h) (digits_all xs)))

-- a digit more
digits_nil : all_digits [] ≡ true
unfolding all_digits
digits_nil = refl

digits_more : (xs : List ℕ) (d : ℕ) → d < 10 → all_digits xs ≡ true → all_digits (xs ++ ((48 + d) ∷ [])) ≡ true
unfolding all_digits
digits_more [] d h e = is_ge (omega arith) _ _ ∙ is_ge (omega arith) _ _
digits_more (x ∷ xs) d h e =
    let low = lt_skip x 48 _ _ no e in
    let high = lt_skip 57 x _ _ no low.1 in
    is_ge low.0 _ _ ∙ (is_ge high.0 _ _ ∙ digits_more xs d h high.1)
  where
    no : false ≡ true → ⊥
    no c = constructors_differ cc

-- What was printed is a number.
pub number_decimal : (n : ℕ) → is_number (decimal n) ≡ true
number_decimal n =
    let p = length_positive n in
    number_other (decimal n) (λ e. omega arith)
    ∙ decimal_ind (λ m. all_digits (decimal m) ≡ true)
    (λ m h. rw (decimal_one h) (digits_more [] m h digits_nil))
    (λ m h e. rw (decimal_more h) (digits_more (decimal (m / 10)) (m % 10) (omega arith) e)) n

-- Comparing with a number below 65,536 is the same for the value and for what `capped` makes of it.
pub capped_below : {n : ℕ} → n < 65536 → capped n ≡ n
unfolding capped
capped_below h = is_lt h _ _

pub capped_above : {n : ℕ} → 65536 ≤ n → capped n ≡ 65536
unfolding capped
capped_above h = is_ge h _ _

pub capped_larger : {v : ℕ} (xs : List ℕ) → 65535 < v → capped (value_from v xs) ≡ 65536
capped_larger {v} xs h = let g = value_grows v xs in capped_above (omega arith)

pub capped_le : {k : ℕ} (n : ℕ) → k < 65536 → (capped n ≤ k) ↔ (n ≤ k)
unfolding capped
capped_le {k} n h =
    lt_elim (λ r. (r ≤ k) ↔ (n ≤ k)) n 65536 _ _ (λ l. (λ e. e, λ e. e)) (λ g. (λ e. omega arith, λ e. omega arith))
