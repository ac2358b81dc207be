-- `day_of_date` meets its contract: the day's number where `is_real` says yes, else refused.
use Rattle.std.proofs.Common.{sym, ◌∙◌}
use Rattle.prelude.proofs.Laws.Choice.{picks, if_by_true}
use Rattle.days.specs.Answers.{day_answer}
use Rattle.days.proofs.Laws.Dates.{valid_facts}
use Rattle.days.proofs.numbers.day_of_date.Goals as goal

pub returns-then-not-is_real : goal.returns-then-not-is_real
unfolding day_answer
returns-then-not-is_real c = search picks depth 25 fits 3000

pub day_of-requires : goal.day_of-requires
day_of-requires c = valid_facts (sym c.is_real.ensures ∙ c.if-not-is_real.false)

pub returns : goal.returns
unfolding day_answer
returns c = if_by_true _ _ _ c.is_real.ensures c.if-not-is_real.false (cc)
