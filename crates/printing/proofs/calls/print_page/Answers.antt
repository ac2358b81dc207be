-- `print_page` meets its contract: the book and the day decide, then the room.
use Rattle.std.proofs.Common.{ap, sym, ◌∙◌}
use Rattle.prelude.proofs.Laws.Results.{err_passed}
use Rattle.pages.proofs.Laws.Pages.{validated_ready}
use Rattle.printing.specs.Answers.{print_in, print_leaves}
use Rattle.printing.proofs.calls.print_page.Goals as goal

pub returns-in_err-a : goal.returns-in_err-a
unfolding print_in print_leaves
returns-in_err-a c =
    let e = sym c.in_err-a.was ∙ c.validate.ensures in
    record { gives = err_passed c.from_residual.ensures.1 ∙ ap (print_in _ _ _) e; leaves = ap (print_leaves _ _ _) e }

pub print_in-requires : goal.print_in-requires
print_in-requires c = validated_ready _ _ (sym c.validate.ensures ∙ c.in_ok-a.was)
