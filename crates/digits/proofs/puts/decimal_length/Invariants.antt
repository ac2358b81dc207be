-- `decimal_length` meets its contract. The loop counts the powers of ten up to n.
use Rattle.std.proofs.Common.{◌+◌, ◌-◌}
use Rattle.digits.proofs.Laws.Decimal.{Powers}
use Rattle.digits.proofs.puts.decimal_length.Given as goal

abbrev pub invariant-loop-power : goal.invariant-loop-power
invariant-loop-power l = Powers l.n l.power l.more

abbrev pub decreases-loop-power : goal.decreases-loop-power
decreases-loop-power l = (l.tenth + 1) - l.power
