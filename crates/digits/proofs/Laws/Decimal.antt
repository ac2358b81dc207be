-- Laws of printed numbers: the equations of `decimal`, behind which nothing looks at its bound, and how many digits there are.
-- Assumes nothing.
use Rattle.std.specs.Prelude.{ℕ, zero, suc, ◌+◌, ◌*◌, ◌/◌, ◌%◌, ◌^◌, ◌<◌, ◌≤◌, ◌≡◌, refl, [], ◌∷◌, ◌++◌, length}
use Rattle.std.proofs.Common.{sym, ap, ◌∙◌, arith, pow-suc, add-one, length-append}
use Rattle.std.proofs.Math.Nat.{one-le-pow}
use Rattle.prelude.proofs.Laws.Choice.{is_lt, is_ge, lt_elim}
use Rattle.digits.specs.Digits.{digit, decimal_f, decimal}

-- A number is below 10 or it is not.
ten_or_not : {P : Type 0} (n : ℕ) → (n < 10 → P) → (10 ≤ n → P) → P
ten_or_not {P} n f g = lt_elim {X = Unit {0}} (λ _. P) n 10 tt tt f g

step_one : (k n : ℕ) → n < 10 → decimal_f (suc k) n ≡ digit n ∷ []
unfolding decimal_f
step_one k n h = is_lt h _ _

step_more : (k n : ℕ) → 10 ≤ n → decimal_f (suc k) n ≡ decimal_f k (n / 10) ++ (digit n ∷ [])
unfolding decimal_f
step_more k n h = is_ge h _ _

-- Any bound above n gives all digits.
enough : (k m n : ℕ) → n < k → n < m → decimal_f k n ≡ decimal_f m n
enough zero m n h l = absurd (omega arith)
enough (suc k) zero n h l = absurd (omega arith)
enough (suc k) (suc m) n h l =
    ten_or_not n (λ s. step_one k n s ∙ sym (step_one m n s))
    (λ g.
    step_more k n g ∙ rw (enough k m (n / 10) (omega arith) (omega arith)) (sym (step_more m n g)))

-- "0" to "9"
pub decimal_one : {n : ℕ} → n < 10 → decimal n ≡ (48 + n) ∷ []
unfolding decimal
decimal_one {n} h = let e : digit n ≡ 48 + n = omega arith in step_one n n h ∙ ap (λ d. d ∷ []) e

-- a larger number: the digits of its tenth, and the last one
pub decimal_more : {n : ℕ} → 10 ≤ n → decimal n ≡ decimal (n / 10) ++ ((48 + n % 10) ∷ [])
unfolding decimal
decimal_more {n} h = step_more n n h ∙ rw (enough n (suc (n / 10)) (n / 10) (omega arith) (omega arith))

-- What holds below 10, and of a number where it holds of its tenth, holds of all.
ind_below : (P : ℕ → Type 0) → ((n : ℕ) → n < 10 → P n) → ((n : ℕ) → 10 ≤ n → P (n / 10) → P n) → (k n : ℕ) → n < k → P n
ind_below P one more zero n h = absurd (omega arith)
ind_below P one more (suc k) n h =
    ten_or_not n (one n) (λ g. more n g (ind_below P one more k (n / 10) (omega arith)))

pub decimal_ind : (P : ℕ → Type 0) → ((n : ℕ) → n < 10 → P n) → ((n : ℕ) → 10 ≤ n → P (n / 10) → P n) → (n : ℕ) → P n
decimal_ind P one more n = ind_below P one more (suc n) n (omega arith)

pub length_one : {n : ℕ} → n < 10 → length (decimal n) ≡ 1
length_one h = ap length (decimal_one h)

pub length_more : {n : ℕ} → 10 ≤ n → length (decimal n) ≡ length (decimal (n / 10)) + 1
length_more {n} h = ap length (decimal_more h) ∙ length-append (decimal (n / 10)) ((48 + n % 10) ∷ [])

pub length_positive : (n : ℕ) → 0 < length (decimal n)
length_positive n = ten_or_not n (λ h. let e = length_one h in omega arith) (λ h. let e = length_more h in omega arith)

-- by how many digits there are
pub ten_of_more : {n : ℕ} → 1 < length (decimal n) → 10 ≤ n
ten_of_more {n} h = ten_or_not n (λ s. let e = length_one s in omega arith) (λ g. g)

pub below_ten : {n : ℕ} → length (decimal n) ≤ 1 → n < 10
below_ten {n} h = ten_or_not n (λ s. s) (λ g. let e = length_more g in let p = length_positive (n / 10) in omega arith)

-- by the powers of ten
pub length_above : (k n : ℕ) → 10 ^ k ≤ n → k < length (decimal n)
length_above zero n h = length_positive n
length_above (suc k) n h =
    let e = pow-suc 10 k in
    let p = one-le-pow k 10 (omega arith) in
    let l = length_above k (n / 10) (omega arith) in
    let m = length_more {n = n} (omega arith) in
    omega arith

pub length_below : (k n : ℕ) → n < 10 ^ suc k → length (decimal n) ≤ suc k
length_below zero n h = let e = length_one {n = n} h in omega arith
length_below (suc k) n h =
    let e = pow-suc 10 (suc k) in
    ten_or_not n (λ s. let m = length_one s in omega arith)
    (λ g. let m = length_more g in let l = length_below k (n / 10) (omega arith) in omega arith)

-- a number of the machine
pub length-word : {n : ℕ} → n < 2 ^ 64 → length (decimal n) ≤ 20
length-word {n} h = length_below 19 n (omega arith)

-- Counting the powers of ten up to n: `power` is the one of number `more`, and n has more digits than that.
pub record Powers (n power more : ℕ) : Type 0 where
  pub positive : 1 ≤ power
  pub tens : power ≡ 10 ^ more
  pub low : more < length (decimal n)
  pub high : length (decimal n) ≤ 20

pub powers_start : {n : ℕ} → n < 2 ^ 64 → Powers n 1 0
powers_start {n} h = record { positive = omega arith; tens = refl; low = length_positive n; high = length-word h }

pub powers_next : {n power more : ℕ} → Powers n power more → power ≤ n / 10 → Powers n (power * 10) (more + 1)
powers_next {n} {power} {more} p h =
    let e : power * 10 ≡ 10 ^ (more + 1) = rw (add-one more, pow-suc 10 more) (ap (λ k. k * 10) p.tens) in
    record { positive = omega arith; tens = e; low = length_above (more + 1) n (omega arith); high = p.high }

pub powers_end : {n power more : ℕ} → Powers n power more → n / 10 < power → more + 1 ≡ length (decimal n)
powers_end {n} {power} {more} p h =
    let e = pow-suc 10 more in
    let l = length_below more n (omega arith) in
    omega arith
