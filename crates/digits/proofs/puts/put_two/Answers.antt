-- `put_two` meets its contract: two elements stored in place are a piece of two.
use Rattle.std.proofs.Common.{add-one, arith, length-set, refl}
use Rattle.prelude.proofs.Laws.Grown.{sets-splice}
use Rattle.digits.specs.Digits.{two}
use Rattle.digits.proofs.puts.put_two.Goals as goal

pub bounds-out-at : goal.bounds-out-at
unfolding two
bounds-out-at c = omega arith

pub bounds-out-at-2 : goal.bounds-out-at-2
unfolding two
bounds-out-at-2 c = simp length-set (omega arith)

pub returns : goal.returns
unfolding two
returns c = record { next = refl; put = rw (add-one c.args.at) (sets-splice _ c.args.at (two c.args.n) (omega arith)) }
