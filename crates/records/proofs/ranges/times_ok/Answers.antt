-- `times_ok` meets its contract: each return is the choice that its tests make.
use Rattle.std.proofs.Common.{arith}
use Rattle.std.proofs.lemmas.Grind.{common_steps}
use Rattle.prelude.specs.Choice.{if_lt}
use Rattle.records.specs.Ranges.{times_ok}
use Rattle.records.proofs.ranges.times_ok.Goals as goal

pub returns-then-start-end : goal.returns-then-start-end
unfolding times_ok if_lt
returns-then-start-end c = grind (arith, common_steps)

pub returns-else-start-end : goal.returns-else-start-end
unfolding times_ok if_lt
returns-else-start-end c = grind (arith, common_steps)
