-- `judge_head` meets its contract: each return is the choice that its tests make.
use Rattle.std.proofs.Common.{arith}
use Rattle.std.proofs.lemmas.Grind.{common_steps}
use Rattle.prelude.specs.Choice.{if_lt, if_eq}
use Rattle.book.specs.Walk.{judge_head}
use Rattle.book.proofs.steps.judge_head.Goals as goal

pub returns-in-50 : goal.returns-in-50
unfolding judge_head if_lt if_eq
returns-in-50 c = grind (arith, common_steps)

pub returns-in-1-to-6 : goal.returns-in-1-to-6
unfolding judge_head if_lt if_eq
returns-in-1-to-6 c = grind (arith, common_steps)

pub returns-in-1-to-6-2 : goal.returns-in-1-to-6-2
unfolding judge_head if_lt if_eq
returns-in-1-to-6-2 c = grind (arith, common_steps)

pub returns-in_default : goal.returns-in_default
unfolding judge_head if_lt if_eq
returns-in_default c = grind (arith, common_steps)

pub returns-in_default-2 : goal.returns-in_default-2
unfolding judge_head if_lt if_eq
returns-in_default-2 c = grind (arith, common_steps)

pub returns-in_default-3 : goal.returns-in_default-3
unfolding judge_head if_lt if_eq
returns-in_default-3 c = grind (arith, common_steps)
