-- `next_shown` meets its contract: no day from the start up to the present one shows, by `free-wait`; before the start none does, by `free-start`.
use Rattle.std.proofs.Common.{◌-◌, ◌≤◌}
use Rattle.days.specs.Days.{last_day}
use Rattle.day_steps.specs.Moves.{FactsAt}
use Rattle.occurrences.proofs.Laws.Find.{Free}
use Rattle.occurrences.proofs.finding.next_shown.Given as goal

abbrev pub invariant-loop-c : goal.invariant-loop-c
invariant-loop-c l = FactsAt l.g l.g.day.0 × (l.initial.g.day.0 ≤ l.g.day.0) × Free l.c l.r l.initial.g.day.0 l.g.day.0

abbrev pub decreases-loop-c : goal.decreases-loop-c
decreases-loop-c l = last_day - l.g.day.0
