-- Laws of month starts in lists: the date of a day from its month's start, and one start more.
-- Assumes nothing.
use Rattle.std.specs.Prelude.{ℕ, suc, ◌+◌, ◌-◌, ◌<◌, ◌≡◌, List, length, set}
use Rattle.std.proofs.Common.{◌∙◌, ap, get_or-set_same, get_or-set_other, below_more, arith}
use Rattle.days.specs.Days.{month_length_at, month_start, date_of}
use Rattle.days.proofs.Laws.Days.{start_suc, date_in_month, date_in_lem}
use Rattle.days.specs.Table.{StartsFrom, InMonth}

-- the date of a day, from the month that it lies in
pub date_in_month_lem : {n i : ℕ} → InMonth n i → date_of n ≡ date_in_month i (n - month_start i)
date_in_month_lem {n} {i} h =
    let s : month_start (suc i) ≡ month_start i + month_length_at i = start_suc i in
    let e : n ≡ month_start i + (n - month_start i) = omega arith in
    ap date_of e ∙ date_in_lem i (n - month_start i) (omega arith)

-- one start more, stored behind the others
pub starts_set : {first k x : ℕ} {s : List ℕ} → StartsFrom first k s → k < length s → x ≡ month_start (first + k) → StartsFrom first (k + 1) (set s k x)
starts_set {first} {k} {x} {s} h l e =
    record {
      start = below_more _ k (λ j m. get_or-set_other s k j x 0 (λ q. omega (arith, q)) ∙ h.start j m) (get_or-set_same s k x 0 l ∙ e);
    }
