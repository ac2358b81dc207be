-- `last_of` meets its contract: each arm by its own equation.
use Rattle.prelude.specs.Choice.{if_b}
use Rattle.marshal.specs.PageAnswers.{choice_of}
use Rattle.marshal.proofs.page_answers.last_of.Goals as goal

pub returns-in-Skip : goal.returns-in-Skip
unfolding choice_of if_b
returns-in-Skip c = rw c.in-Skip.is

pub returns-in-Last : goal.returns-in-Last
unfolding choice_of if_b
returns-in-Last c = rw c.in-Last.is
