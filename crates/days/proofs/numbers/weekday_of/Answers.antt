-- `weekday_of` meets its contract by the weekday's formula.
use Rattle.std.proofs.Common.{arith}
use Rattle.days.proofs.Laws.Days.{weekday_formula}
use Rattle.days.proofs.numbers.weekday_of.Goals as goal

pub returns : goal.returns
returns c = omega (arith, weekday_formula c.args.n.0)
