-- `appointment_in` meets its contract: a cursor walks the list up to appointment k, or to its end.
use Rattle.std.proofs.Common.{◌-◌, ◌≤◌}
use Rattle.calendar.specs.Lists.{list_walk_from, places_in_list}
use Rattle.calendar.proofs.Laws.Appointments.{ListCursor}
use Rattle.calendar.proofs.appointments.appointment_in.Given as goal

abbrev pub invariant-loop-at : goal.invariant-loop-at
invariant-loop-at l = ListCursor l.file l.span.end (places_in_list (list_walk_from l.file l.span.end 0 l.span.from)) l.i l.at × (l.i ≤ l.k)

abbrev pub decreases-loop-at : goal.decreases-loop-at
decreases-loop-at l = l.span.end - l.at
