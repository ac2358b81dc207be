-- `past_zero` meets its contract. The loop keeps: none of the 40 bytes from place `start + k` on is zero.
use Rattle.std.proofs.Common.{ℕ, ◌+◌, ◌<◌, ◌≡◌, ◌≤◌}
use Rattle.prelude.specs.Bytes.{byte}
use Rattle.texts.proofs.rules.past_zero.Given as goal

abbrev pub invariant-loop-k : goal.invariant-loop-k
invariant-loop-k l = (i : ℕ) → l.start + l.k ≤ i → i < l.start + 40 → byte l.s i ≡ 0 → ⊥
