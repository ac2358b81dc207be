-- `why` meets its contract: the book and the day decide, then the record's number; what the answer promises is `why_promised`.
use Rattle.std.proofs.Common.{ap, sym, ◌∙◌}
use Rattle.prelude.proofs.Laws.Results.{err_passed}
use Rattle.pages.proofs.Laws.Pages.{validated_ready}
use Rattle.reasons.specs.Answers.{why_in}
use Rattle.reasons.proofs.Laws.Calls.{why_promised}
use Rattle.reasons.proofs.calls.why.Goals as goal

pub returns-in_err-a-clause-gives : goal.returns-in_err-a-clause-gives
unfolding why_in
returns-in_err-a-clause-gives c = err_passed c.from_residual.ensures.1 ∙ ap (why_in _ _ _) (sym c.in_err-a.was ∙ c.validate.ensures)

pub why_in-requires : goal.why_in-requires
why_in-requires c = validated_ready _ _ (sym c.validate.ensures ∙ c.in_ok-a.was)

pub returns-clause-shown : goal.returns-clause-shown
returns-clause-shown c = rw (c.why_in.ensures ∙ ap (why_in _ _ _) (sym c.in_ok-a.was ∙ c.validate.ensures)) (why_promised _ _ _ _)
