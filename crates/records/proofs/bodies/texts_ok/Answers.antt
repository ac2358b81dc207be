-- `texts_ok` meets its contract: the two rules, on the stretches where text and note lie.
use native.Mathlib.Nat.{add-sub_cancel_left}
use Rattle.prelude.proofs.Laws.Choice.{if_by_true, if_by_false}
use Rattle.records.proofs.bodies.texts_ok.Goals as goal

pub returns-then-no_zero : goal.returns-then-no_zero
returns-then-no_zero c = if_by_true _ _ _ (cc (add-sub_cancel_left c.args.fixed c.args.text)) c.if-no_zero.true c.note_ok_at.ensures

pub returns-else-no_zero : goal.returns-else-no_zero
returns-else-no_zero c = if_by_false _ _ _ (cc (add-sub_cancel_left c.args.fixed c.args.text)) c.if-no_zero.false c.if-no_zero.false
