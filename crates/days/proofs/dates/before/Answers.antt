-- `before` meets its contract: the derived order of dates is that of the definition.
use Rattle.std.proofs.Common.{arith}
use Rattle.std.proofs.lemmas.Bool.Decides.{nat_tests}
use Rattle.prelude.specs.Choice.{if_lt}
use Rattle.days.specs.Dates.{before}
use Rattle.days.proofs.dates.before.Goals as goal

pub returns : goal.returns
unfolding before if_lt
returns c = grind (arith, nat_tests)
