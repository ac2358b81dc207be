-- `judge_table` meets its contract. The loop keeps: the table is what is left of it from descriptor k on, with no day below low.
use Rattle.std.proofs.Common.{◌*◌, ◌+◌, ◌-◌, ◌≡◌}
use Rattle.calendar.specs.Reader.{table_from}
use Rattle.calendar.proofs.head.judge_table.Given as goal

abbrev pub invariant-loop-k : goal.invariant-loop-k
invariant-loop-k l = table_from l.count l.file 64 0 ≡ table_from (l.count - l.k) l.file (64 + 12 * l.k) l.low
