-- `judge_close` meets its contract: each return is the choice that its test makes.
use Rattle.std.proofs.Common.{add-zero, refl}
use Rattle.prelude.proofs.Laws.Choice.{if_by_true, if_by_false}
use Rattle.writer.specs.Writing.{close_refusal}
use Rattle.writer.proofs.deciding.judge_close.Goals as goal

pub returns-then-not-is_open : goal.returns-then-not-is_open
unfolding close_refusal
returns-then-not-is_open c = if_by_false _ _ _ c.is_open.ensures c.if-not-is_open.true refl

pub returns : goal.returns
unfolding close_refusal
returns c = if_by_true _ _ _ c.is_open.ensures c.if-not-is_open.false (rw add-zero at c.judge_room.ensures)
