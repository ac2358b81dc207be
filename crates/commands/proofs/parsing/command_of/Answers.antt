-- `command_of` meets its contract: the number of words decides.
use Rattle.commands.specs.Commands.{command_of}
use Rattle.prelude.proofs.Laws.Choice.{picks}
use Rattle.commands.proofs.parsing.command_of.Goals as goal

pub returns-in-2 : goal.returns-in-2
unfolding command_of
returns-in-2 c = search picks depth 25 fits 3000

pub returns-in-3 : goal.returns-in-3
unfolding command_of
returns-in-3 c = search picks depth 25 fits 3000

pub returns-in_default : goal.returns-in_default
unfolding command_of
returns-in_default c = search picks depth 25 fits 3000
