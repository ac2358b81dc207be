-- `yearly_ok` meets its contract: each return is the choice that its tests make.
use Rattle.std.proofs.Common.{arith}
use Rattle.std.proofs.lemmas.Grind.{common_steps}
use Rattle.prelude.specs.Choice.{if_lt, if_b}
use Rattle.records.specs.Ranges.{yearly_ok, between}
use Rattle.records.proofs.ranges.yearly_ok.Goals as goal

pub returns-then-contains : goal.returns-then-contains
unfolding yearly_ok between if_lt if_b
returns-then-contains c = grind (arith, common_steps)

pub returns-else-contains : goal.returns-else-contains
unfolding yearly_ok between if_lt if_b
returns-else-contains c = grind (arith, common_steps)
