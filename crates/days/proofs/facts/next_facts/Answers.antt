-- `next_facts` meets its contract: each return is the choice that its tests make.
use Rattle.std.proofs.Common.{arith}
use Rattle.std.proofs.lemmas.Bool.Decides.{nat_tests}
use Rattle.prelude.specs.Choice.{if_lt}
use Rattle.days.specs.Facts.{next_facts}
use Rattle.days.proofs.facts.next_facts.Goals as goal

pub returns-then-f-ge-LAST_DAY : goal.returns-then-f-ge-LAST_DAY
unfolding next_facts if_lt
returns-then-f-ge-LAST_DAY c = grind (arith, nat_tests)

pub returns : goal.returns
unfolding next_facts if_lt
returns c = grind (arith, nat_tests)
