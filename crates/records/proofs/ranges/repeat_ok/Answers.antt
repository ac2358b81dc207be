-- `repeat_ok` meets its contract: each return is the choice that its tests make.
use Rattle.std.proofs.Common.{arith}
use Rattle.std.proofs.lemmas.Bool.Decides.{nat_tests}
use Rattle.std.proofs.lemmas.Grind.{common_steps}
use Rattle.prelude.specs.Choice.{if_b}
use Rattle.records.specs.Ranges.{repeat_ok}
use Rattle.records.proofs.ranges.repeat_ok.Goals as goal
use Rattle.records.proofs.ranges.repeat_ok.Goals.{then-is_real-2, else-is_real-2}

pub returns-then-not-before : goal.returns-then-not-before
unfolding repeat_ok if_b
returns-then-not-before c = grind (arith, nat_tests, common_steps)

pub returns-else-not-before : goal.returns-else-not-before
unfolding repeat_ok if_b
returns-else-not-before c = grind (arith, nat_tests, common_steps)
