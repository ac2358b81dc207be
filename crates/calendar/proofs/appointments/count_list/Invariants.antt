-- `count_list` meets its contract: a cursor walks the list, and stands at appointment n after n steps.
use Rattle.std.proofs.Common.{◌-◌, ◌≤◌}
use Rattle.calendar.specs.Lists.{list_walk_from, places_in_list}
use Rattle.calendar.proofs.Laws.Appointments.{ListCursor}
use Rattle.calendar.proofs.appointments.count_list.Given as goal

abbrev pub invariant-loop-at : goal.invariant-loop-at
invariant-loop-at l = ListCursor l.file l.span.end (places_in_list (list_walk_from l.file l.span.end 0 l.span.from)) l.n l.at × (l.n ≤ l.at)

abbrev pub decreases-loop-at : goal.decreases-loop-at
decreases-loop-at l = l.span.end - l.at
