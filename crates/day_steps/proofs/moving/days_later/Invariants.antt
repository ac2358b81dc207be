-- `days_later` meets its contract: the day reached and the days left come to the same day; a month's end is stepped over by `facts_next`.
use Rattle.std.proofs.Common.{◌+◌, ◌≡◌}
use Rattle.day_steps.specs.Moves.{FactsAt}
use Rattle.day_steps.proofs.moving.days_later.Given as goal

abbrev pub invariant-loop-left : goal.invariant-loop-left
invariant-loop-left l = FactsAt l.g (l.g.day.0 + l.left) × (l.g.day.0 + l.left ≡ l.initial.g.day.0 + l.k)

abbrev pub decreases-loop-left : goal.decreases-loop-left
decreases-loop-left l = l.left
