-- `decimal_length` meets its contract. The loop counts the powers of ten up to n.
use Rattle.std.proofs.Common.{arith}
use Rattle.digits.proofs.Laws.Decimal.{powers_start, powers_next, powers_end}
use Rattle.digits.proofs.puts.decimal_length.Goals as goal

pub loop-power-init : goal.loop-power-init
loop-power-init c = powers_start (omega arith)

pub loop-power-preserved : goal.loop-power-preserved
loop-power-preserved c = powers_next c.loop-power.invariant (omega arith)

pub returns : goal.returns
returns c = powers_end c.loop-power.invariant (omega arith)
