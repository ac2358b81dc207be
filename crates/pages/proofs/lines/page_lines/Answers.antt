-- `page_lines` meets its contract: the book and the day decide, then the count.
use Rattle.std.proofs.Common.{Ok, ap, sym, ◌∙◌}
use Rattle.pages.specs.Answers.{page_count_in}
use Rattle.pages.proofs.Laws.Pages.{validated_ready}
use Rattle.pages.proofs.lines.page_lines.Goals as goal

pub count_lines-requires : goal.count_lines-requires
count_lines-requires c = validated_ready _ _ (sym c.validate.ensures ∙ c.in_ok-a.was)

pub returns : goal.returns
unfolding page_count_in
returns c = ap Ok c.count_lines.ensures ∙ ap (page_count_in _ _) (sym (sym c.validate.ensures ∙ c.in_ok-a.was))
