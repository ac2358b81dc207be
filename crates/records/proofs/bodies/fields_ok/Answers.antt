-- `fields_ok` meets its contract: each return is the choice that its tests make.
use Rattle.std.proofs.Common.{arith}
use Rattle.std.proofs.lemmas.Grind.{common_steps}
use Rattle.prelude.specs.Choice.{if_eq, if_b}
use Rattle.records.specs.Bodies.{fields_ok}
use Rattle.records.proofs.bodies.fields_ok.Goals as goal

pub returns-in-1 : goal.returns-in-1
unfolding fields_ok if_eq if_b
returns-in-1 c = grind (arith, common_steps)

pub returns-in-2 : goal.returns-in-2
unfolding fields_ok if_eq if_b
returns-in-2 c = grind (arith, common_steps)

pub returns-in-3 : goal.returns-in-3
unfolding fields_ok if_eq if_b
returns-in-3 c = grind (arith, common_steps)

pub returns-in-4 : goal.returns-in-4
unfolding fields_ok if_eq if_b
returns-in-4 c = grind (arith, common_steps)

pub returns-in-5 : goal.returns-in-5
unfolding fields_ok if_eq if_b
returns-in-5 c = grind (arith, common_steps)

pub returns-then-to_do_ok : goal.returns-then-to_do_ok
unfolding fields_ok if_eq if_b
returns-then-to_do_ok c = grind (arith, common_steps)

pub returns-else-to_do_ok : goal.returns-else-to_do_ok
unfolding fields_ok if_eq if_b
returns-else-to_do_ok c = grind (arith, common_steps)
