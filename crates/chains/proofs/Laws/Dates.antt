-- Dates as numbers are in the order of their bytes, so that an entry before the last is judged by three numbers.
-- Assumes nothing.
use Rattle.std.specs.Prelude.{ℕ, zero, suc, ◌+◌, ◌-◌, ◌*◌, ◌<◌, ◌≤◌, ◌≡◌, refl, List, length}
use Rattle.std.proofs.Math.Path.{sym, ap}
use Rattle.std.proofs.Common.{◌∙◌, arith, add-one}
use Rattle.std.proofs.Math.Bool.{Bool, true, false}
use Rattle.prelude.specs.Choice.{if_lt, if_eq, if_b}
use Rattle.prelude.proofs.Laws.Choice.{is_lt, is_ge, is_eq, is_ne, lt_elim, lt_choice}
use Rattle.prelude.specs.Bytes.{Bytes, byte}
use Rattle.prelude.proofs.Laws.Bytes.{bytes_at}
use Rattle.chains.specs.Chains.{no_record, entries, head_at, date_before, entry_bad}
use Rattle.chains.specs.Dates.{date_number, least_date, day_bad}

module _ (t : List ℕ) (b : Bytes t) where
  -- as numbers, the first byte first
  date-order : (i j : ℕ) → date_before t i j ≡ if_lt (date_number t i) (date_number t j) true false
  unfolding date_before
  date-order i j =
      lt_elim (λ x. x ≡ r) (byte t (5 * i)) (byte t (5 * j)) _ _
      (λ h. sym (is_lt (omega (arith, m i, d i)) _ _))
      (λ h. lt_elim (λ x. x ≡ r) (byte t (5 * j)) (byte t (5 * i)) _ _
      (λ k. sym (is_ge (omega (arith, m j, d j)) _ _))
      (λ k. lt_elim (λ x. x ≡ r) (byte t (5 * i + 1)) (byte t (5 * j + 1)) _ _
      (λ l. sym (is_lt (omega (arith, d i)) _ _))
      (λ l. lt_elim (λ x. x ≡ r) (byte t (5 * j + 1)) (byte t (5 * i + 1)) _ _
      (λ n. sym (is_ge (omega (arith, d j)) _ _))
      (λ n. lt_elim (λ x. x ≡ r) (byte t (5 * i + 2)) (byte t (5 * j + 2)) _ _
      (λ o. sym (is_lt (omega arith) _ _))
      (λ o. sym (is_ge (omega arith) _ _))))))
    where
      r : Bool
      r = if_lt (date_number t i) (date_number t j) true false

      m : (k : ℕ) → byte t (5 * k + 1) < 256
      m k = bytes_at t b (5 * k + 1)

      d : (k : ℕ) → byte t (5 * k + 2) < 256
      d k = bytes_at t b (5 * k + 2)

  -- the rise of dates, broken where a date is below the least that it may be
  rise : (i : ℕ) → if_eq i 0 false (if_b (date_before t (i - 1) i) false true) ≡ if_lt (date_number t i) (least_date t i) true false
  rise zero = is_eq refl _ _ ∙ sym (is_ge (omega arith) _ _)
  rise (suc i) =
      let e : suc i - 1 ≡ i = omega arith in
      is_ne (λ z. omega arith) _ _ ∙ ap (λ (x : ℕ). if_b (date_before t x (suc i)) false true) e ∙ ap (λ (x : Bool). if_b x false true) (date-order i (suc i)) ∙ turned (date_number t i) (date_number t (suc i))
    where
      turned : (x y : ℕ) → if_b (if_lt x y true false) false true ≡ if_lt y (x + 1) true false
      turned x y =
          lt_choice x y false true
          ∙ lt_elim (λ z. z ≡ if_lt y (x + 1) true false) x y false true
          (λ h. sym (is_ge (omega arith) _ _)) (λ h. sym (is_lt (omega arith) _ _))

  before_last : (i : ℕ) → i + 1 < entries t → entry_bad t i ≡ day_bad (head_at t i) (date_number t i) (least_date t i)
  unfolding entry_bad day_bad
  before_last i h = is_ge (omega arith) _ _ ∙ is_ne (λ e. omega arith) _ _ ∙ ap (if_eq (head_at t i) no_record true) (rise i)

  -- as the code tests it
  pub day-judged : (i : ℕ) {head date low : ℕ} {v : Bool} → i + 1 < entries t → head ≡ head_at t i → date ≡ date_number t i → low ≡ least_date t i → v ≡ day_bad head date low → v ≡ entry_bad t i
  day-judged i h p q r e = e ∙ rw (p, q, r) (sym (before_last i h))

-- the least date of the entry after
pub next_least : (t : List ℕ) (i : ℕ) {x : ℕ} → x ≡ date_number t i + 1 → x ≡ least_date t (i + 1)
next_least t i e = rw (add-one i) e

-- the last entry: cut short, without 65,535, or good
module _ (t : List ℕ) (i : ℕ) (last : i + 1 ≡ entries t) where
  pub last-cut : length t < 5 * i + 5 → entry_bad t i ≡ true
  unfolding entry_bad
  last-cut l = is_lt l _ _

  pub last-without : 5 * i + 5 ≤ length t → (head_at t i ≡ no_record → ⊥) → entry_bad t i ≡ true
  unfolding entry_bad
  last-without l n = is_ge l _ _ ∙ is_eq last _ _ ∙ is_ne n _ _

  pub last-good : 5 * i + 5 ≤ length t → head_at t i ≡ no_record → entry_bad t i ≡ false
  unfolding entry_bad
  last-good l e = is_ge l _ _ ∙ is_eq last _ _ ∙ is_eq e _ _
