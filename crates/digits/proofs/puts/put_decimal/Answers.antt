-- `put_decimal` meets its contract. The loop keeps: the digits of `left` are still to be written, and those behind them stand from i on.
use Rattle.std.proofs.Common.{[], arith, ◌-◌}
use Rattle.prelude.proofs.Laws.Grown.{set-splice}
use Rattle.digits.proofs.Laws.Decimal.{decimal_one, decimal_more, length_positive, ten_of_more, below_ten}
use Rattle.digits.proofs.Laws.Backed.{backed-none, backed-before, backed-all}
use Rattle.digits.proofs.puts.put_decimal.Goals as goal

pub loop-i-init : goal.loop-i-init
loop-i-init c = backed-none c.requires (omega arith)

pub loop-i-preserved : goal.loop-i-preserved
loop-i-preserved c =
    backed-before _ (rw (decimal_more {n = c.loop-i.left} (ten_of_more (omega arith))) at c.loop-i.invariant) (omega arith) (set-splice _ (c.loop-i.i - 1) _ (omega arith))

pub overflow_cast-out-2 : goal.overflow_cast-out-2
overflow_cast-out-2 c = omega (arith, below_ten {n = c.loop-i.left} (omega arith))

pub overflow_add-out-2 : goal.overflow_add-out-2
overflow_add-out-2 c = omega (arith, below_ten {n = c.loop-i.left} (omega arith))

pub bounds-out-at : goal.bounds-out-at
bounds-out-at c = omega (arith, length_positive c.loop-i.left)

pub returns-clause-put : goal.returns-clause-put
returns-clause-put c =
    let l = length_positive c.loop-i.left in
    let p = below_ten {n = c.loop-i.left} (omega arith) in
    backed-all (backed-before {front = []} _ (rw (decimal_one p) at c.loop-i.invariant) (omega arith) (set-splice _ c.args.at _ (omega arith)))
