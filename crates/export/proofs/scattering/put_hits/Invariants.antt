-- `put_hits` meets its contract: the days behind have the piece, those ahead not yet, and none between is missed.
use Rattle.std.proofs.Common.{get_or, length, true, ◌-◌, ◌<◌, ◌≡◌, ◌≤◌}
use Rattle.occurrences.specs.Rules.{rule_shows}
use Rattle.calendar_writer.specs.Scatter.{Added, scatter}
use Rattle.export.proofs.scattering.put_hits.Given as goal

abbrev pub invariant-loop-j : goal.invariant-loop-j
invariant-loop-j l =
    (scatter (length l.span.days.now) (λ k. rule_shows l.span.choice l.r (get_or l.span.days.now k 0)) l.piece l.initial.places 0 l.initial.out
    ≡ scatter (length l.span.days.now - l.j) (λ k. rule_shows l.span.choice l.r (get_or l.span.days.now k 0)) l.piece l.initial.places l.j l.out)
    × Added (λ k. rule_shows l.span.choice l.r (get_or l.span.days.now k 0)) (length l.piece) l.j l.initial.places l.places
    × (length l.out ≡ length l.initial.out) × (l.j ≤ length l.span.days.now) × (l.j < length l.span.days.now → rule_shows l.span.choice l.r (get_or l.span.days.now l.j 0) ≡ true)

abbrev pub decreases-loop-j : goal.decreases-loop-j
decreases-loop-j l = length l.span.days.now - l.j
