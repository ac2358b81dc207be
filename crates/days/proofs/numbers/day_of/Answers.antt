-- `day_of` meets its contract: the closed form is the start of the date's month.
use Rattle.std.proofs.Common.{arith}
use Rattle.days.specs.Days.{day_number}
use Rattle.days.proofs.Laws.Days.{number_bound}
use Rattle.days.proofs.MarchRule.{march_early, march_late}
use Rattle.days.proofs.numbers.day_of.Goals as goal

pub overflow_add-result : goal.overflow_add-result
unfolding day_number
overflow_add-result c = omega (arith, march_early c.requires c.if-d-lt3.true, number_bound c.requires)

pub returns-then-d-lt3 : goal.returns-then-d-lt3
unfolding day_number
returns-then-d-lt3 c = omega (arith, march_early c.requires c.if-d-lt3.true)

pub overflow_add-result-else-d-lt3 : goal.overflow_add-result-else-d-lt3
unfolding day_number
overflow_add-result-else-d-lt3 c = omega (arith, march_late c.requires c.if-d-lt3.false, number_bound c.requires)

pub returns-else-d-lt3 : goal.returns-else-d-lt3
unfolding day_number
returns-else-d-lt3 c = omega (arith, march_late c.requires c.if-d-lt3.false)
