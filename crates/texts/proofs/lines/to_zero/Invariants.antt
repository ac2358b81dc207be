-- `to_zero` meets its contract. The loop keeps that no zero stands before `end`.
use Rattle.std.proofs.Common.{drop, length, ◌+◌, ◌-◌, ◌≡◌, ◌≤◌}
use Rattle.texts.specs.Lines.{to_zero}
use Rattle.texts.proofs.lines.to_zero.Given as goal

abbrev pub invariant-loop-end : goal.invariant-loop-end
invariant-loop-end l = (l.end ≤ length l.s) × (to_zero l.s ≡ l.end + to_zero (drop l.end l.s))

abbrev pub decreases-loop-end : goal.decreases-loop-end
decreases-loop-end l = length l.s - l.end
