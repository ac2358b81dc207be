-- `month_of` meets its contract: after k halvings `left` months are left, from month `low` of the 45 on, and eleven leave one month.
use Rattle.std.proofs.Common.{◌+◌, ◌≤◌}
use Rattle.days.specs.Halving.{Narrowed}
use Rattle.days.proofs.search.month_of.Given as goal

abbrev pub invariant-loop-k : goal.invariant-loop-k
invariant-loop-k l = (l.low + l.left ≤ 45) × Narrowed l.n l.k (l.rest.first + l.low) l.left
