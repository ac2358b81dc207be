-- The order of real dates is the order of their day numbers.
-- Assumes nothing.
use Rattle.std.specs.Prelude.{suc, ◌+◌, ◌<◌, ◌≤◌, ◌≡◌, Bool, true, false}
use Rattle.std.proofs.Common.{ap, true≢false}
use Rattle.std.proofs.lemmas.Bool.{false≢true}
use native.Mathlib.Omega.{arith}
use Rattle.prelude.proofs.Laws.Choice.{lt_elim}
use Rattle.days.specs.Dates.{month_length, before, RealDate}
use Rattle.days.specs.Days.{month_length_at, month_start, month_of, day_number}
use Rattle.days.proofs.Laws.Days.{start_suc, start_le, valid_length}
use Rattle.days.specs.declared.types.Date.{Date}

-- what the answer z of "a is before b" says of the day numbers
pub record Ordered (a b : Date) (z : Bool) : Type 0 where
  pub holds : z ≡ true → day_number a < day_number b
  pub fails : z ≡ false → day_number b ≤ day_number a

module _ {a b : Date} (va : RealDate a) (vb : RealDate b) where
  earlier-month : month_of a < month_of b → day_number a < day_number b
  unfolding day_number
  earlier-month h =
      let e : month_length_at (month_of a) ≡ month_length a.year a.month = valid_length va in
      let s : month_start (suc (month_of a)) ≡ month_start (month_of a) + month_length_at (month_of a) = start_suc (month_of a) in
      let g : month_start (suc (month_of a)) ≤ month_start (month_of b) = start_le h in
      omega arith

  same-month : a.year ≡ b.year → a.month ≡ b.month → month_start (month_of a) ≡ month_start (month_of b)
  same-month y m = ap month_start (omega arith)

is_before : {a b : Date} → day_number a < day_number b → Ordered a b true
is_before h = record { holds = λ _. h; fails = λ e. absurd (true≢false e) }

not_before : {a b : Date} → day_number b ≤ day_number a → Ordered a b false
not_before h = record { holds = λ e. absurd (false≢true e); fails = λ _. h }

pub ordered : {a b : Date} → RealDate a → RealDate b → Ordered a b (before a b)
unfolding before day_number
ordered {a} {b} va vb =
    lt_elim (Ordered a b) a.year b.year _ _ (λ h. is_before (earlier-month va vb (omega arith)))
    (λ y. lt_elim (Ordered a b) b.year a.year _ _ (λ h. not_before (omega (arith, earlier-month vb va (omega arith))))
    (λ y'. lt_elim (Ordered a b) a.month b.month _ _ (λ h. is_before (earlier-month va vb (omega arith)))
    (λ m. lt_elim (Ordered a b) b.month a.month _ _ (λ h. not_before (omega (arith, earlier-month vb va (omega arith))))
    (λ m'. lt_elim (Ordered a b) a.day b.day _ _ (λ h. is_before (omega (arith, same-month va vb (omega arith) (omega arith))))
    (λ h. not_before (omega (arith, same-month va vb (omega arith) (omega arith))))))))
