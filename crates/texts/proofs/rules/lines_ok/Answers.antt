-- `lines_ok` meets its contract, by the laws of its two tests.
use Rattle.std.proofs.Common.{arith, sym, ◌∙◌}
use Rattle.texts.proofs.Laws.Rules.{note_many, note_few}
use Rattle.texts.proofs.rules.lines_ok.Goals as goal

pub returns-then-few_lines : goal.returns-then-few_lines
returns-then-few_lines c = c.short_lines.ensures ∙ sym (note_few _ (omega arith) (sym c.few_lines.ensures ∙ c.if-few_lines.true))

pub returns-else-few_lines : goal.returns-else-few_lines
returns-else-few_lines c = c.if-few_lines.false ∙ sym (note_many _ (omega arith) (sym c.few_lines.ensures ∙ c.if-few_lines.false))
