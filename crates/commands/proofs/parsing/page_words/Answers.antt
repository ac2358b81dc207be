-- `page_words` meets its contract: a number and a choice, or anything else.
use Rattle.std.proofs.Common.{sym, ◌∙◌}
use Rattle.commands.specs.Commands.{with_number, page_words}
use Rattle.commands.proofs.NoNumber.{no_number, no_choice, a_choice}
use Rattle.commands.proofs.parsing.page_words.Goals as goal

pub returns-in_default : goal.returns-in_default
unfolding page_words
returns-in_default c = no_number _ _ c.in_default.not-Number

pub returns-in_default-choice : goal.returns-in_default-choice
unfolding page_words with_number
returns-in_default-choice c = rw c.in-Number.is (no_choice _ _ (sym c.choice.ensures ∙ c.in_default-choice.is))

pub returns : goal.returns
unfolding page_words with_number
returns c = rw c.in-Number.is (a_choice _ _ (sym c.choice.ensures ∙ c.in-Some.is))
