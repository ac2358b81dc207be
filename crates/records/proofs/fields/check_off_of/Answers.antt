-- `check_off_of` meets its contract: each return is the choice that its tests make.
use Rattle.std.proofs.Common.{arith}
use Rattle.std.proofs.lemmas.Grind.{common_steps}
use Rattle.prelude.specs.Choice.{if_b}
use Rattle.records.specs.Fields.{check_off_of}
use Rattle.records.proofs.fields.check_off_of.Goals as goal

pub returns : goal.returns
unfolding check_off_of if_b
returns c = grind (arith, common_steps)
