-- `next_day` meets its contract: each return is the choice that its tests make.
use Rattle.std.proofs.Common.{arith}
use Rattle.std.proofs.lemmas.Bool.Decides.{nat_tests}
use Rattle.prelude.specs.Choice.{if_lt}
use Rattle.days.specs.Answers.{next_answer}
use Rattle.days.proofs.facts.next_day.Goals as goal

pub returns-then-f-ge-LAST_DAY : goal.returns-then-f-ge-LAST_DAY
unfolding next_answer if_lt
returns-then-f-ge-LAST_DAY c = grind (arith, nat_tests)

pub returns : goal.returns
unfolding next_answer if_lt
returns c = grind (arith, nat_tests)
