-- `step` meets its contract: each return is the choice that its tests make.
use Rattle.std.proofs.Common.{arith}
use Rattle.prelude.proofs.Laws.Choice.{picks, lt_yes}
use Rattle.days.specs.Facts.{stepped}
use Rattle.days.proofs.facts.step.Goals as goal

pub returns-then-f : goal.returns-then-f
unfolding stepped
returns-then-f c = lt_yes _ _ _ (omega arith) (cc)

pub returns-then-f-lt12 : goal.returns-then-f-lt12
unfolding stepped
returns-then-f-lt12 c = search picks depth 25 fits 3000

pub returns-else-f-lt12 : goal.returns-else-f-lt12
unfolding stepped
returns-else-f-lt12 c = search picks depth 25 fits 3000
