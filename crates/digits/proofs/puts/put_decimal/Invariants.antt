-- `put_decimal` meets its contract. The loop keeps: the digits of `left` are still to be written, and those behind them stand from i on.
use Rattle.digits.specs.Digits.{decimal}
use Rattle.digits.proofs.Laws.Backed.{Backed}
use Rattle.digits.proofs.puts.put_decimal.Given as goal

abbrev pub invariant-loop-i : goal.invariant-loop-i
invariant-loop-i l = Backed l.initial.out l.at (decimal l.n) l.out l.i (decimal l.left)
