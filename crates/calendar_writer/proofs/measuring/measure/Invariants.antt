-- `measure` meets its contract: what is counted so far and what is left of the sums make up the whole.
use Rattle.std.proofs.Common.{drop, ◌*◌, ◌≡◌, ◌≤◌}
use Rattle.calendar_writer.specs.Sums.{most_units, sum_up}
use Rattle.calendar_writer.proofs.measuring.measure.Given as goal

abbrev pub invariant-loop-sum : goal.invariant-loop-sum
invariant-loop-sum l = (sum_up 0 0 0 0 l.sums ≡ sum_up l.n l.units l.last l.appointments (drop l.sum-index l.sums)) × (l.n ≤ l.sum-index) × (l.units ≤ most_units * l.sum-index) × (l.last ≤ l.units) × (l.appointments ≤ 4294967296 * l.sum-index)
