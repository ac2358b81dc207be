-- `settings_ok` meets its contract: each return is the choice that its tests make.
use Rattle.std.proofs.Common.{arith}
use Rattle.std.proofs.lemmas.Grind.{common_steps}
use Rattle.prelude.specs.Choice.{if_lt, if_b}
use Rattle.book.specs.Settings.{settings_ok}
use Rattle.book.proofs.settings.settings_ok.Goals as goal

pub returns-then-settings_in_range : goal.returns-then-settings_in_range
unfolding settings_ok if_lt if_b
returns-then-settings_in_range c = grind (arith, common_steps)

pub returns-else-settings_in_range : goal.returns-else-settings_in_range
unfolding settings_ok if_lt if_b
returns-else-settings_in_range c = grind (arith, common_steps)
