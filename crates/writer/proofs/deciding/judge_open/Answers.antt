-- `judge_open` meets its contract: each return is the choice that its tests make.
use Rattle.prelude.proofs.Laws.Choice.{picks}
use Rattle.writer.specs.Writing.{open_refusal}
use Rattle.writer.proofs.deciding.judge_open.Goals as goal

pub returns-then-not-settings_in_range : goal.returns-then-not-settings_in_range
unfolding open_refusal
returns-then-not-settings_in_range c = search picks depth 25 fits 3000

pub returns-then-size-lt15 : goal.returns-then-size-lt15
unfolding open_refusal
returns-then-size-lt15 c = search picks depth 25 fits 3000

pub returns : goal.returns
unfolding open_refusal
returns c = search picks depth 25 fits 3000
