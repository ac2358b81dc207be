-- Laws of codes: what a day's code holds, and that dates in order have codes in order.
-- Assumes nothing.
use Rattle.std.specs.Prelude.{ℕ, ◌/◌, ◌%◌, ◌<◌, ◌≤◌, ◌≡◌, refl, Bool}
use Rattle.std.proofs.Common.{sym, ◌∙◌, arith}
use Rattle.prelude.specs.Choice.{if_lt, if_b}
use Rattle.prelude.proofs.Laws.Choice.{is_lt, is_ge, is_true, is_false, lt_elim}
use Rattle.days.specs.Dates.{before, RealDate}
use Rattle.days.specs.Days.{last_day, date_of}
use Rattle.days.specs.Facts.{facts_of}
use Rattle.days.proofs.Laws.Dates.{length_bounds}
use Rattle.days.proofs.Laws.Days.{valid_date, weekday_formula}
use Rattle.days.specs.declared.types.Date.{Date}
use Rattle.days.specs.declared.types.DayFacts.{DayFacts}
use Rattle.day_steps.specs.Codes.{date_code, date_of_code, day_code, date_in, month_in, day_in, weekday_in, month_length_in, FitsCode, Known}

pub valid_fits : {d : Date} → RealDate d → FitsCode d
valid_fits {d} v = let m = length_bounds d.year d.month v.january v.december in omega arith

-- a code's three numbers
pub record Parts (d : Date) (q : ℕ) : Type 0 where
  pub year : q / 512 ≡ d.year
  pub month : q / 32 % 16 ≡ d.month
  pub day : q % 32 ≡ d.day

pub date_code_parts : {d : Date} → FitsCode d → Parts d (date_code d)
date_code_parts {d} v = omega arith

-- a date's code gives the date back
in_16_bits : {a year : ℕ} → a ≡ year → year < 65536 → a % 65536 ≡ year
in_16_bits e h = omega arith

pub date_of_code_lem : {d : Date} → FitsCode d → d.year < 65536 → date_of_code (date_code d) ≡ d
date_of_code_lem {d} v h =
    let p = date_code_parts v in
    λ i. record { year = in_16_bits p.year h i; month = p.month i; day = p.day i }

pub facts_known : (n : ℕ) → n ≤ last_day → Known (facts_of n)
unfolding facts_of
facts_known n h =
    let v : RealDate (date_of n) = valid_date n h in
    let m = length_bounds (date_of n).year (date_of n).month v.january v.december in
    let w = weekday_formula n in
    record { year = v.upto; date = valid_fits v; first = v.first; weekday = omega arith; length = omega arith }

-- what a code holds
pub record Held (f : DayFacts) (p : ℕ) : Type 0 where
  pub date : date_in p ≡ date_code f.date
  pub month : month_in p ≡ f.date.month
  pub day : day_in p ≡ f.date.day
  pub weekday : weekday_in p ≡ f.weekday
  pub length : month_length_in p ≡ f.length

pub day_code_holds : {f : DayFacts} → Known f → Held f (day_code f)
day_code_holds {f} k = let d = k.date in omega arith

pub held_day : (n : ℕ) → n ≤ last_day → Held (facts_of n) (day_code (facts_of n))
held_day n h = day_code_holds (facts_known n h)

-- the order of dates is that of their codes
pub before-code : {a b : Date} → FitsCode a → FitsCode b → {X : Type 0} (x y : X) → if_b (before a b) x y ≡ if_lt (date_code a) (date_code b) x y
unfolding before
before-code {a} {b} fa fb {X} x y =
    lt_elim P a.year b.year _ _ (λ h. is_true refl x y ∙ sym (is_lt (omega arith) x y))
    (λ h. lt_elim P b.year a.year _ _ (λ i. is_false refl x y ∙ sym (is_ge (omega arith) x y))
    (λ i. lt_elim P a.month b.month _ _ (λ j. is_true refl x y ∙ sym (is_lt (omega arith) x y))
    (λ j. lt_elim P b.month a.month _ _ (λ k. is_false refl x y ∙ sym (is_ge (omega arith) x y))
    (λ k. lt_elim P a.day b.day _ _ (λ l. is_true refl x y ∙ sym (is_lt (omega arith) x y)) (λ l. is_false refl x y ∙ sym (is_ge (omega arith) x y))))))
  where
    P : Bool → Type 0
    P z = if_b z x y ≡ if_lt (date_code a) (date_code b) x y
