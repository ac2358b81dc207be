-- `psion_of_calendar` meets its contract: each return is the choice that its test makes.
use Rattle.prelude.proofs.Laws.Choice.{picks}
use Rattle.days.specs.Answers.{psion_of_calendar}
use Rattle.days.proofs.psion.psion_of_calendar.Goals as goal

pub returns-then-n : goal.returns-then-n
unfolding psion_of_calendar
returns-then-n c = search picks depth 25 fits 3000

pub returns-else-n : goal.returns-else-n
unfolding psion_of_calendar
returns-else-n c = search picks depth 25 fits 3000
