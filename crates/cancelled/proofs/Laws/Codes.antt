-- Laws of entries as numbers: what one holds, and that they rise as their records and days do.
-- Assumes nothing.
use Rattle.std.specs.Prelude.{ℕ, ◌<◌, ◌≡◌, ◌⊎◌}
use Rattle.std.proofs.Common.{inl, inr, ⊎_elim, arith}
use Rattle.prelude.proofs.Laws.Choice.{lt_elim}
use Rattle.cancelled.specs.Cancelled.{cancelled_code, cancelled_number, cancelled_day}

-- an entry holds its record and its day
pub code_number : (number day : ℕ) → day < 65536 → cancelled_number (cancelled_code number day) ≡ number
code_number number day h = omega arith

pub code_day : (number day : ℕ) → day < 65536 → cancelled_day (cancelled_code number day) ≡ day
code_day number day h = omega arith

pub code_back : (e : ℕ) → cancelled_code (cancelled_number e) (cancelled_day e) ≡ e
code_back e = omega arith

-- "by number and then day"
abbrev pub Earlier : ℕ → ℕ → Type 0
Earlier e d = (cancelled_number e < cancelled_number d) ⊎ ((cancelled_number e ≡ cancelled_number d) × (cancelled_day e < cancelled_day d))

pub code_rises : (e d : ℕ) → e < d → Earlier e d
code_rises e d h =
    lt_elim {X = Unit {0}} (λ _. Earlier e d) (cancelled_number e) (cancelled_number d) tt tt (λ l. inl l) (λ l. inr (omega arith, omega arith))

pub rises_code : (e d : ℕ) → Earlier e d → e < d
rises_code e d h = ⊎_elim (λ l. omega arith) (λ l. omega arith) h
