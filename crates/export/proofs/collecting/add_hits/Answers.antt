-- `add_hits` meets its contract: the days behind have their weight, those ahead not yet, and none between is missed.
use Rattle.std.proofs.Common.{arith, refl}
use Rattle.calendar_writer.proofs.Laws.Scatter.{added_none, added-hit}
use Rattle.export.proofs.collecting.add_hits.Goals as goal

pub loop-j-init : goal.loop-j-init
loop-j-init c = (added_none _ (λ k h. c.requires.next.none k (omega arith) h), c.requires.next.high, c.requires.next.hit)

pub loop-j-preserved : goal.loop-j-preserved
loop-j-preserved c = (added-hit _ c.loop-j.invariant.0 (omega arith) (c.loop-j.invariant.2 (omega arith)) refl (omega (arith, c.next_after-j.ensures.low)) c.next_after-j.ensures.none, c.next_after-j.ensures.high, c.next_after-j.ensures.hit)
