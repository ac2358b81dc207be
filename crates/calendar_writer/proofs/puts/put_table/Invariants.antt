-- `put_table` meets its contract: the descriptors so far stand in the buffer, and those of the sums ahead are left.
use Rattle.std.proofs.Common.{drop, ◌*◌, ◌+◌, ◌≤◌}
use Rattle.prelude.proofs.Laws.Grown.{Grown}
use Rattle.calendar.specs.File.{first_unit}
use Rattle.calendar_writer.specs.DayLists.{most_days}
use Rattle.calendar_writer.specs.Sums.{most_units, sum_table}
use Rattle.calendar_writer.proofs.puts.put_table.Given as goal

abbrev pub invariant-loop-k : goal.invariant-loop-k
invariant-loop-k l = Grown l.initial.out l.at (sum_table l.first l.unit l.sums) l.out l.pos (sum_table (l.first + l.k) l.u (drop l.k l.sums)) × (l.u ≤ first_unit most_days + most_units * l.k)
