-- `line_text` meets its contract: the line's own answer decides.
use Rattle.std.proofs.Common.{ap, sym, ◌∙◌}
use Rattle.pages.specs.Answers.{line_text}
use Rattle.pages.proofs.lines.line_text.Goals as goal

pub returns : goal.returns
unfolding line_text
returns c = c.of.ensures ∙ ap (line_text _) (sym (sym c.line_at.ensures ∙ c.in-Ok.is))
