-- `flags_ok` meets its contract: each return is the choice that its tests make.
use Rattle.std.proofs.Common.{arith}
use Rattle.std.proofs.lemmas.Grind.{common_steps}
use Rattle.prelude.specs.Choice.{if_lt}
use Rattle.book.specs.Settings.{flags_ok}
use Rattle.book.proofs.settings.flags_ok.Goals as goal

pub returns-then-alarm-le1 : goal.returns-then-alarm-le1
unfolding flags_ok if_lt
returns-then-alarm-le1 c = grind (arith, common_steps)

pub returns-else-alarm-le1 : goal.returns-else-alarm-le1
unfolding flags_ok if_lt
returns-else-alarm-le1 c = grind (arith, common_steps)
