-- The rule of the table, "first entry 0, each next larger by the month's length", tested once over a whole list and carried to each entry.
-- Assumes nothing.
use mathlib.Core.Path.{◌≡◌, sym, ◌∙◌, ap}
use mathlib.Core.Bool.{Bool, true, false}
use mathlib.Core.List.{List, [], ◌∷◌}
use Prim.Native.Nat.{ℕ, zero, suc, ◌+◌, ◌<◌}
use native.Mathlib.Nat.{add-zero, zero-add, add-suc, suc-add, le_of_suc-le-suc, not-suc-le-zero}
use lib.Dec.{T, eqb, eqb→eq}
use lib.ListN.{length, get_or}
use Rattle.days.specs.Days.{month_length_at, month_start}
use Rattle.days.proofs.Laws.Days.{start_zero, start_suc}

abbrev pub both : Bool → Bool → Bool
both true b = b
both false b = false

pub both_left : (a b : Bool) → T (both a b) → T a
both_left true b t = tt
both_left false b t = t

pub both_right : (a b : Bool) → T (both a b) → T b
both_right true b t = t
both_right false b t = absurd t

-- from month i on, which starts on day s, each entry is its month's start
abbrev pub runs : ℕ → ℕ → List ℕ → Bool
runs i s [] = true
runs i s (x ∷ xs) = both (eqb x s) (runs (suc i) (s + month_length_at i) xs)

from : (xs : List ℕ) (i s : ℕ) → s ≡ month_start i → T (runs i s xs) → (k : ℕ) → k < length xs → get_or xs k 0 ≡ month_start (i + k)
from [] i s e t k h = absurd (not-suc-le-zero h)
from (x ∷ xs) i s e t zero h = eqb→eq x s (both_left (eqb x s) (runs (suc i) (s + month_length_at i) xs) t) ∙ e ∙ ap month_start (sym (add-zero i))
from (x ∷ xs) i s e t (suc k) h =
    from xs (suc i) (s + month_length_at i) (ap (λ (m : ℕ). m + month_length_at i) e ∙ sym (start_suc i))
    (both_right (eqb x s) (runs (suc i) (s + month_length_at i) xs) t) k (le_of_suc-le-suc h)
    ∙ ap month_start (suc-add i k ∙ sym (add-suc i k))

pub entry : (xs : List ℕ) → T (runs 0 0 xs) → (k : ℕ) → k < length xs → get_or xs k 0 ≡ month_start k
entry xs t k h = from xs 0 0 (sym start_zero) t k h ∙ ap month_start (zero-add k)
