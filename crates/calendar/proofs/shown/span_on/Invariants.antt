-- `span_on` meets its contract. The loop keeps: the day's places are those among the descriptors that are left from the k-th on.
use Rattle.std.proofs.Common.{Ok, ◌*◌, ◌+◌, ◌-◌, ◌≡◌}
use Rattle.calendar.specs.Reader.{days_from}
use Rattle.calendar.specs.Shown.{places_from, places_on}
use Rattle.calendar.proofs.shown.span_on.Given as goal

abbrev pub invariant-loop-k : goal.invariant-loop-k
invariant-loop-k l = (places_on l.file l.day ≡ places_from (l.n - l.k) l.file (64 + 12 * l.k) l.day) × (days_from (l.n - l.k) l.file (64 + 12 * l.k) ≡ Ok tt)
