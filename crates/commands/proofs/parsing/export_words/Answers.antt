-- `export_words` meets its contract: two numbers and a choice, or anything else.
use Rattle.std.proofs.Common.{sym, ◌∙◌}
use Rattle.commands.specs.Commands.{with_number, export_words}
use Rattle.commands.proofs.NoNumber.{no_number, no_choice, a_choice}
use Rattle.commands.proofs.parsing.export_words.Goals as goal

pub returns-in_default : goal.returns-in_default
unfolding export_words
returns-in_default c = no_number _ _ c.in_default.not-Number

pub returns-in_default-b : goal.returns-in_default-b
unfolding export_words with_number
returns-in_default-b c = rw c.in-Number.is (no_number c.args.b _ c.in_default-b.not-Number)

pub returns-in_default-choice : goal.returns-in_default-choice
unfolding export_words with_number
returns-in_default-choice c = rw (c.in-Number.is, c.in-Number-b.is) (no_choice _ _ (sym c.choice.ensures ∙ c.in_default-choice.is))

pub returns : goal.returns
unfolding export_words with_number
returns c = rw (c.in-Number.is, c.in-Number-b.is) (a_choice _ _ (sym c.choice.ensures ∙ c.in-Some.is))
