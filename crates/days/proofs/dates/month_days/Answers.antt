-- `month_days` meets its contract: each arm is the choice that its pattern makes.
use Rattle.std.proofs.Common.{arith}
use Rattle.std.proofs.lemmas.Bool.Decides.{nat_tests}
use Rattle.prelude.specs.Choice.{if_lt, if_eq, if_b}
use Rattle.days.specs.Dates.{month_length}
use Rattle.days.proofs.dates.month_days.Goals as goal

pub returns-in-4 : goal.returns-in-4
unfolding month_length if_lt if_eq if_b
returns-in-4 c = grind (arith, nat_tests)

pub returns-in-2 : goal.returns-in-2
unfolding month_length if_lt if_eq if_b
returns-in-2 c = grind (arith, nat_tests)

pub returns-in_default : goal.returns-in_default
unfolding month_length if_lt if_eq if_b
returns-in_default c = grind (arith, nat_tests)

pub returns-in_default-2 : goal.returns-in_default-2
unfolding month_length if_lt if_eq if_b
returns-in_default-2 c = grind (arith, nat_tests)
