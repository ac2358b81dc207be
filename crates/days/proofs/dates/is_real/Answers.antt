-- `is_real` meets its contract: the code's tests are the choices of the definition.
use Rattle.std.proofs.Common.{arith}
use Rattle.std.proofs.lemmas.Bool.Decides.{nat_tests}
use Rattle.prelude.specs.Choice.{if_lt}
use Rattle.days.specs.Dates.{real}
use Rattle.days.proofs.dates.is_real.Goals as goal

pub returns-then-contains-2 : goal.returns-then-contains-2
unfolding real if_lt
returns-then-contains-2 c = grind (arith, nat_tests)

pub returns-else-contains-2 : goal.returns-else-contains-2
unfolding real if_lt
returns-else-contains-2 c = grind (arith, nat_tests)
