-- Judgements one after the other: of their verdicts the first that is not fine counts.
-- Assumes nothing.
use Rattle.std.specs.Prelude.{Result, Ok, Err, ℕ, zero, suc, Bool}
use Rattle.prelude.specs.Choice.{if_b}
use Rattle.prelude.specs.Refusals.{refusal_at}
use Rattle.prelude.specs.declared.refusals.Refusal.{Refusal}

-- a judgement: fine, or the refusal
abbrev pub Verdict : Type 0
Verdict = Result (Unit {0}) Refusal

-- refused with number n at place p
abbrev pub refused : ℕ → ℕ → Verdict
refused n p = Err (refusal_at n p)

-- the same where the test says that it is bad
unfoldable pub unless_bad : Bool → ℕ → ℕ → Verdict
unless_bad bad n p = if_b bad (refused n p) (Ok tt)

-- a verdict, and where it is fine the next
unfoldable pub and_then : Verdict → Verdict → Verdict
and_then (Ok tt) w = w
and_then (Err e) w = Err e

-- the verdicts of k numbers from i on
unfoldable pub in_turn : (ℕ → Verdict) → ℕ → ℕ → Verdict
in_turn judged zero i = Ok tt
in_turn judged (suc k) i = and_then (judged i) (in_turn judged k (suc i))
