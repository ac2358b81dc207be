-- `judge_days` meets its contract. The loop keeps: the days are judged as those that are left from descriptor k on.
use Rattle.std.proofs.Common.{◌*◌, ◌+◌, ◌-◌, ◌≡◌}
use Rattle.calendar.specs.Reader.{days_from}
use Rattle.calendar.proofs.reading.judge_days.Given as goal

abbrev pub invariant-loop-k : goal.invariant-loop-k
invariant-loop-k l = days_from l.count l.file 64 ≡ days_from (l.count - l.k) l.file (64 + 12 * l.k)
