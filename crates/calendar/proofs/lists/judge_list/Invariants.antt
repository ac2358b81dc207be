-- `judge_list` meets its contract. The loop keeps: the list is judged as what is left of it from the place on.
use Rattle.std.proofs.Common.{◌-◌, ◌≡◌}
use Rattle.calendar.specs.Lists.{list_walk_from, verdict_in}
use Rattle.calendar.proofs.lists.judge_list.Given as goal

abbrev pub invariant-loop-at : goal.invariant-loop-at
invariant-loop-at l = verdict_in (list_walk_from l.file l.span.end 0 l.span.from) ≡ verdict_in (list_walk_from l.file l.span.end l.low l.at)

abbrev pub decreases-loop-at : goal.decreases-loop-at
decreases-loop-at l = l.span.end - l.at
