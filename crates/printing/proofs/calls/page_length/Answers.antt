-- `page_length` meets its contract: the book and the day decide, then the page is measured.
use Rattle.std.proofs.Common.{Ok, ap, sym, ◌∙◌}
use Rattle.prelude.proofs.Laws.Results.{err_passed}
use Rattle.pages.proofs.Laws.Pages.{validated_ready}
use Rattle.printing.specs.Answers.{page_length_in}
use Rattle.printing.proofs.calls.page_length.Goals as goal

pub returns-in_err-a : goal.returns-in_err-a
unfolding page_length_in
returns-in_err-a c = err_passed c.from_residual.ensures.1 ∙ ap (page_length_in _ _) (sym c.in_err-a.was ∙ c.validate.ensures)

pub page_size-requires : goal.page_size-requires
page_size-requires c = validated_ready _ _ (sym c.validate.ensures ∙ c.in_ok-a.was)

pub returns : goal.returns
unfolding page_length_in
returns c = ap Ok c.page_size.ensures ∙ ap (page_length_in _ _) (sym c.in_ok-a.was ∙ c.validate.ensures)
