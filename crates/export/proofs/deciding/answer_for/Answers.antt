-- `answer_for` meets its contract: each return by the tests before it.
use Rattle.std.proofs.Common.{arith, refl}
use Rattle.prelude.proofs.Laws.Choice.{lt_yes, lt_no, b_yes, b_no}
use Rattle.export.specs.Export.{sized}
use Rattle.export.proofs.deciding.answer_for.Goals as goal

pub returns-then-m : goal.returns-then-m
unfolding sized
returns-then-m c = b_yes _ _ c.if-m.true refl

pub returns-then-room-m : goal.returns-then-room-m
unfolding sized
returns-then-room-m c = b_no _ _ c.if-m.false (lt_yes _ _ _ (omega arith) refl)

pub returns : goal.returns
unfolding sized
returns c = b_no _ _ c.if-m.false (lt_no _ _ _ (omega arith) refl)
