-- `zero_from` meets its contract. The loop keeps: the first zero from the start on is the first from i on.
use Rattle.std.proofs.Common.{◌-◌, ◌≡◌, ◌≤◌}
use Rattle.calendar.specs.Lists.{first_zero}
use Rattle.calendar.proofs.lists.zero_from.Given as goal

abbrev pub invariant-loop-i : goal.invariant-loop-i
invariant-loop-i l = (l.i ≤ l.end) × (first_zero (l.end - l.from) l.file l.from ≡ first_zero (l.end - l.i) l.file l.i)

abbrev pub decreases-loop-i : goal.decreases-loop-i
decreases-loop-i l = l.end - l.i
