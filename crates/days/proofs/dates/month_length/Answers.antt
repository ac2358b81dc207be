-- `month_length` meets its contract: the code's tests are the choices of the definition.
use Rattle.std.proofs.Common.{arith}
use Rattle.std.proofs.lemmas.Bool.Decides.{nat_tests}
use Rattle.prelude.specs.Choice.{if_lt}
use Rattle.days.specs.Answers.{length_answer}
use Rattle.days.proofs.dates.month_length.Goals as goal

pub returns-then-contains-2 : goal.returns-then-contains-2
unfolding length_answer if_lt
returns-then-contains-2 c = grind (arith, nat_tests)

pub returns-else-contains : goal.returns-else-contains
unfolding length_answer if_lt
returns-else-contains c = grind (arith, nat_tests)
