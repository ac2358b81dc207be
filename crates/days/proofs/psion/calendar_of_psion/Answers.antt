-- `calendar_of_psion` meets its contract: the range tested is that of the definition.
use Rattle.std.proofs.Common.{arith}
use Rattle.std.proofs.lemmas.Bool.Decides.{nat_tests}
use Rattle.prelude.specs.Choice.{if_lt}
use Rattle.days.specs.Answers.{calendar_of_psion}
use Rattle.days.proofs.psion.calendar_of_psion.Goals as goal

pub returns-then-contains : goal.returns-then-contains
unfolding calendar_of_psion if_lt
returns-then-contains c = grind (arith, nat_tests)

pub returns-else-contains : goal.returns-else-contains
unfolding calendar_of_psion if_lt
returns-else-contains c = grind (arith, nat_tests)
