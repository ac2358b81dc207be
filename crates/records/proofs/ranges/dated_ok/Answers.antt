-- `dated_ok` meets its contract: each return is the choice that its tests make.
use Rattle.std.proofs.Common.{arith}
use Rattle.std.proofs.lemmas.Grind.{common_steps}
use Rattle.prelude.specs.Choice.{if_b}
use Rattle.records.specs.Ranges.{dated_ok}
use Rattle.records.proofs.ranges.dated_ok.Goals as goal

pub returns-then-is_real : goal.returns-then-is_real
unfolding dated_ok if_b
returns-then-is_real c = grind (arith, common_steps)

pub returns-else-is_real : goal.returns-else-is_real
unfolding dated_ok if_b
returns-else-is_real c = grind (arith, common_steps)
