-- `is_open` meets its contract: both tests say what the definition's choices say.
use Rattle.std.proofs.Common.{arith}
use Rattle.prelude.proofs.Laws.Choice.{picks}
use Rattle.writer.specs.Writing.{state_open}
use Rattle.writer.proofs.Laws.Calls.{open_both}
use Rattle.writer.proofs.deciding.is_open.Goals as goal

pub returns-then-w-ge-FIRST_RECORD : goal.returns-then-w-ge-FIRST_RECORD
returns-then-w-ge-FIRST_RECORD c = open_both c.args.w (omega arith)

pub returns-else-w-ge-FIRST_RECORD : goal.returns-else-w-ge-FIRST_RECORD
unfolding state_open
returns-else-w-ge-FIRST_RECORD c = search picks depth 25 fits 3000
