-- `in_range` meets its contract: each return is the choice that its test makes.
use Rattle.prelude.proofs.Laws.Choice.{picks}
use Rattle.days.proofs.numbers.in_range.Goals as goal

pub returns-then-n-gt-LAST_DAY : goal.returns-then-n-gt-LAST_DAY
returns-then-n-gt-LAST_DAY c = search picks depth 25 fits 3000

pub returns : goal.returns
returns c = search picks depth 25 fits 3000
