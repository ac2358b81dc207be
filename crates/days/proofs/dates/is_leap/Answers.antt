-- `is_leap` meets its contract: the code's test is the choice of the definition.
use Rattle.std.proofs.Common.{arith}
use Rattle.std.proofs.lemmas.Bool.Decides.{nat_tests}
use Rattle.prelude.specs.Choice.{if_eq}
use Rattle.days.specs.Dates.{leap}
use Rattle.days.proofs.dates.is_leap.Goals as goal

pub returns-then-year-ne0 : goal.returns-then-year-ne0
unfolding leap if_eq
returns-then-year-ne0 c = grind (arith, nat_tests)

pub returns-else-year-ne0 : goal.returns-else-year-ne0
unfolding leap if_eq
returns-else-year-ne0 c = grind (arith, nat_tests)

pub returns-else-year-eq0 : goal.returns-else-year-eq0
unfolding leap if_eq
returns-else-year-eq0 c = grind (arith, nat_tests)
