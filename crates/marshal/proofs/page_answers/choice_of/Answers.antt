-- `choice_of` meets its contract: by its test.
use Rattle.marshal.specs.PageAnswers.{choice_of}
use Rattle.prelude.proofs.Laws.Choice.{picks}
use Rattle.marshal.proofs.page_answers.choice_of.Goals as goal

pub returns-then-last : goal.returns-then-last
unfolding choice_of
returns-then-last c = search picks depth 25 fits 3000

pub returns-else-last : goal.returns-else-last
unfolding choice_of
returns-else-last c = search picks depth 25 fits 3000
