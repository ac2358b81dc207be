-- Month starts by a closed form, and its test against the count of months, one by one. Years begin in March, so that a leap day is the last of its year.
-- Assumes nothing.
use Prim.Native.Nat.{ℕ, zero, suc, ◌+◌, ◌-◌, ◌*◌, ◌/◌, ◌<◌, ◌≤◌}
use mathlib.Core.Path.{◌≡◌, sym, ◌∙◌, ap}
use mathlib.Core.Bool.{Bool, true}
use native.Mathlib.Omega.{arith}
use native.Mathlib.Nat.{add-zero, zero-add, add-suc, suc-add, le_of_suc-le-suc, not-suc-le-zero}
use lib.Dec.{T, eqb, eqb→eq}
use Rattle.prelude.specs.Choice.{if_lt, if_eq, if_b}
use Rattle.prelude.proofs.Laws.Choice.{is_lt, is_ge}
use Rattle.days.specs.Dates.{leap, month_length}
use Rattle.days.specs.Days.{year_at, month_at, month_length_at, month_start, month_of}
use Rattle.days.specs.Dates.{RealDate}
use Rattle.days.proofs.Laws.Days.{start_zero, start_suc}
use Rattle.days.proofs.TableRule.{both, both_left, both_right}
use Rattle.days.specs.declared.types.Date.{Date}

-- from 1 March 1976 to the first of a month, 3 = March to 14 = February
abbrev days_from_march : ℕ → ℕ → ℕ
days_from_march years month = 365 * years + years / 4 + (979 * month - 2919) / 32

-- the same of a month 1 = January to 12 = December; 1 January 1980 is 1,401
abbrev from_march : ℕ → ℕ → ℕ
from_march y m = if_lt m 3 (days_from_march (y - 1977) (m + 12)) (days_from_march (y - 1976) m)

-- n months from month i on, which starts on day s, are by the closed form
abbrev agree : ℕ → ℕ → ℕ → Bool
agree zero i s = true
agree (suc n) i s = both (eqb (from_march (year_at i) (month_at i)) (s + 1401)) (agree n (suc i) (s + month_length_at i))

from : (n i s : ℕ) → s ≡ month_start i → T (agree n i s) → (k : ℕ) → k < n → from_march (year_at (i + k)) (month_at (i + k)) ≡ month_start (i + k) + 1401
from zero i s e t k h = absurd (not-suc-le-zero h)
from (suc n) i s e t zero h =
    rw (add-zero i) (eqb→eq _ (s + 1401) (both_left (eqb (from_march (year_at i) (month_at i)) (s + 1401)) (agree n (suc i) (s + month_length_at i)) t) ∙ ap (λ (m : ℕ). m + 1401) e)
from (suc n) i s e t (suc k) h =
    rw (add-suc i k, ← suc-add i k)
    (from n (suc i) (s + month_length_at i) (ap (λ (m : ℕ). m + month_length_at i) e ∙ sym (start_suc i))
    (both_right (eqb (from_march (year_at i) (month_at i)) (s + 1401)) (agree n (suc i) (s + month_length_at i)) t) k (le_of_suc-le-suc h))

tested : T (agree 1440 0 0)
unfolding month_length_at month_length leap if_lt if_eq if_b
tested = tt

-- the closed form of the start of a real date's month
march_start : {d : Date} → RealDate d → from_march d.year d.month ≡ month_start (month_of d) + 1401
march_start {d} v =
    let y : year_at (month_of d) ≡ d.year = omega arith in
    let m : month_at (month_of d) ≡ d.month = omega arith in
    let h : month_of d < 1440 = omega arith in
    let e = from 1440 0 0 (sym start_zero) tested (month_of d) h in
    rw (zero-add, y, m) at e

pub march_early : {d : Date} → RealDate d → d.month < 3 → days_from_march (d.year - 1977) (d.month + 12) ≡ month_start (month_of d) + 1401
march_early v h = sym (is_lt h _ _) ∙ march_start v

pub march_late : {d : Date} → RealDate d → 3 ≤ d.month → days_from_march (d.year - 1976) d.month ≡ month_start (month_of d) + 1401
march_late v h = sym (is_ge h _ _) ∙ march_start v
