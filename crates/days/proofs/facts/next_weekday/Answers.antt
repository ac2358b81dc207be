-- `next_weekday` meets its contract: each return is the choice that its tests make.
use Rattle.prelude.proofs.Laws.Choice.{picks}
use Rattle.days.specs.Days.{next_weekday}
use Rattle.days.proofs.facts.next_weekday.Goals as goal

pub returns-then-w-lt7 : goal.returns-then-w-lt7
unfolding next_weekday
returns-then-w-lt7 c = search picks depth 25 fits 3000

pub returns-else-w-lt7 : goal.returns-else-w-lt7
unfolding next_weekday
returns-else-w-lt7 c = search picks depth 25 fits 3000
