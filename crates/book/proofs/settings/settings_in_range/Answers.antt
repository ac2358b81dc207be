-- `settings_in_range` meets its contract: each return is the choice that its tests make.
use Rattle.std.proofs.Common.{arith}
use Rattle.std.proofs.lemmas.Grind.{common_steps}
use Rattle.prelude.specs.Choice.{if_lt}
use Rattle.book.specs.Settings.{settings_in_range}
use Rattle.book.proofs.settings.settings_in_range.Goals as goal

pub returns-then-s-le-MOST_GRANULARITY : goal.returns-then-s-le-MOST_GRANULARITY
unfolding settings_in_range if_lt
returns-then-s-le-MOST_GRANULARITY c = grind (arith, common_steps)

pub returns-else-s-le-MOST_GRANULARITY : goal.returns-else-s-le-MOST_GRANULARITY
unfolding settings_in_range if_lt
returns-else-s-le-MOST_GRANULARITY c = grind (arith, common_steps)
