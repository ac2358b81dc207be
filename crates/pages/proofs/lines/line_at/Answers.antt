-- `line_at` meets its contract: the book and the day decide, then the line's number.
use Rattle.std.proofs.Common.{sym, ◌∙◌}
use Rattle.pages.proofs.Laws.Pages.{validated_ready}
use Rattle.pages.proofs.lines.line_at.Goals as goal

pub line_in-requires : goal.line_in-requires
line_in-requires c = validated_ready _ _ (sym c.validate.ensures ∙ c.in_ok-a.was)
