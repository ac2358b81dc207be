-- `check_off` meets its contract: each return is the choice that its test makes.
use Rattle.prelude.proofs.Laws.Choice.{picks}
use Rattle.marshal.specs.RecordArguments.{check_off_in}
use Rattle.marshal.proofs.record_answers.RecordOut.check_off.Goals as goal

pub returns-then-self : goal.returns-then-self
unfolding check_off_in
returns-then-self c = search picks depth 25 fits 3000

pub returns-else-self : goal.returns-else-self
unfolding check_off_in
returns-else-self c = search picks depth 25 fits 3000
