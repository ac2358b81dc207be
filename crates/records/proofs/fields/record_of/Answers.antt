-- `record_of` meets its contract: each return is the choice that its tests make.
use Rattle.std.proofs.Common.{arith}
use Rattle.std.proofs.lemmas.Grind.{common_steps}
use Rattle.prelude.specs.Choice.{if_eq}
use Rattle.records.specs.Fields.{record_of}
use Rattle.records.proofs.fields.record_of.Goals as goal

pub returns-in-1 : goal.returns-in-1
unfolding record_of if_eq
returns-in-1 c = grind (arith, common_steps)

pub returns-in-2 : goal.returns-in-2
unfolding record_of if_eq
returns-in-2 c = grind (arith, common_steps)

pub returns-in-3 : goal.returns-in-3
unfolding record_of if_eq
returns-in-3 c = grind (arith, common_steps)

pub returns-in-4 : goal.returns-in-4
unfolding record_of if_eq
returns-in-4 c = grind (arith, common_steps)

pub returns-in-5 : goal.returns-in-5
unfolding record_of if_eq
returns-in-5 c = grind (arith, common_steps)

pub returns-in_default : goal.returns-in_default
unfolding record_of if_eq
returns-in_default c = grind (arith, common_steps)
