-- Laws of `Next`, for any test: the two ways in which a search ends, and a search that begins further on.
-- Assumes nothing.
use Rattle.std.specs.Prelude.{◌≡◌, ℕ, ◌<◌, ◌≤◌, Bool, true, false}
use Rattle.std.proofs.Common.{arith}
use Rattle.prelude.proofs.Laws.Choice.{lt_elim}
use Rattle.occurrences.specs.Next.{Next}

module _ {p : ℕ → Bool} {from end : ℕ} where
  pub next-hit : {n : ℕ} → from ≤ n → n < end → ((k : ℕ) → from ≤ k → k < n → p k ≡ false) → p n ≡ true → Next p from end n
  next-hit l h f e = record { low = omega arith; high = omega arith; none = f; hit = λ _. e }

  pub next-end : from ≤ end → ((k : ℕ) → from ≤ k → k < end → p k ≡ false) → Next p from end end
  next-end l f = record { low = omega arith; high = omega arith; none = f; hit = λ h. absurd (omega arith) }

  pub next_later : {later n : ℕ} → from ≤ later → ((k : ℕ) → from ≤ k → k < later → k < end → p k ≡ false) → Next p later end n → Next p from end n
  next_later {later} l f e =
      record {
        low = omega (arith, e.low, e.high);
        high = e.high;
        none = λ k a b. lt_elim {X = Unit {0}} (λ _. p k ≡ false) k later tt tt (λ h. f k a h (omega (arith, e.high))) (λ h. e.none k h b);
        hit = e.hit;
      }
