-- `check_off_clean` meets its contract: each return is the choice that its tests make.
use Rattle.std.proofs.Common.{arith}
use Rattle.std.proofs.lemmas.Grind.{common_steps}
use Rattle.prelude.specs.Choice.{if_eq, if_b}
use Rattle.records.specs.Ranges.{check_off_clean, three_zeros}
use Rattle.records.proofs.ranges.check_off_clean.Goals as goal

pub returns-then-bit_1 : goal.returns-then-bit_1
unfolding check_off_clean three_zeros if_eq if_b
returns-then-bit_1 c = grind (arith, common_steps)

pub returns-else-bit_1 : goal.returns-else-bit_1
unfolding check_off_clean three_zeros if_eq if_b
returns-else-bit_1 c = grind (arith, common_steps)
