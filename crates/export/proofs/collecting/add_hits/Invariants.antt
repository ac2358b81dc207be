-- `add_hits` meets its contract: the days behind have their weight, those ahead not yet, and none between is missed.
use Rattle.std.proofs.Common.{get_or, length, true, ◌-◌, ◌<◌, ◌≡◌, ◌≤◌}
use Rattle.occurrences.specs.Rules.{rule_shows}
use Rattle.calendar_writer.specs.Scatter.{Added}
use Rattle.export.proofs.collecting.add_hits.Given as goal

abbrev pub invariant-loop-j : goal.invariant-loop-j
invariant-loop-j l = Added (λ k. rule_shows l.span.choice l.r (get_or l.span.days.now k 0)) l.w l.j l.initial.sums l.sums × (l.j ≤ length l.span.days.now) × (l.j < length l.span.days.now → rule_shows l.span.choice l.r (get_or l.span.days.now l.j 0) ≡ true)

abbrev pub decreases-loop-j : goal.decreases-loop-j
decreases-loop-j l = length l.span.days.now - l.j
