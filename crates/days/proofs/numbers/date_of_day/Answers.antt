-- `date_of_day` meets its contract: out of range the refusal, else what its callees give.
use Rattle.std.proofs.Common.{sym, ◌∙◌}
use Rattle.prelude.proofs.Laws.Choice.{lt_no}
use Rattle.prelude.proofs.Laws.Results.{err_passed}
use Rattle.days.specs.Answers.{date_answer}
use Rattle.days.proofs.Laws.Answers.{range_left, range_kept}
use Rattle.days.proofs.numbers.date_of_day.Goals as goal

pub returns-in_err-in_range : goal.returns-in_err-in_range
unfolding date_answer
returns-in_err-in_range c = err_passed c.from_residual.ensures.1 ∙ range_left _ _ (sym c.in_range.ensures ∙ c.in_err-in_range.was)

pub date_of-requires : goal.date_of-requires
date_of-requires c = range_kept _ (sym c.in_range.ensures ∙ c.in_ok-in_range.was)

pub returns : goal.returns
unfolding date_answer
returns c = lt_no _ _ _ (range_kept _ (sym c.in_range.ensures ∙ c.in_ok-in_range.was)) (cc)
