-- `measure` meets its contract: what is counted so far and what is left of the sums make up the whole.
use Rattle.std.proofs.Common.{arith, sym, ◌∙◌}
use Rattle.calendar_writer.proofs.Laws.Turns.{sum-end, sum_none, sum_some}
use Rattle.calendar_writer.proofs.measuring.measure.Goals as goal
use Rattle.calendar_writer.proofs.measuring.measure.Goals.{then-sum-ne0, else-sum-ne0}

pub loop-sum-preserved : goal.loop-sum-preserved
loop-sum-preserved c =
    elim c.if-sum-ne0.branch [
      | then-sum-ne0 w ↦ rw (w.n-is, w.units-is, w.last-is, w.appointments-is, w.units_for-units.ensures, w.count_in-appointments.ensures) (
        c.loop-sum.invariant.0 ∙ sum_some c.args.sums.now c.loop-sum.sum-index _ _ _ _ (omega arith) w.if-sum-ne0.true,
        omega arith,
        omega arith,
        omega arith,
        omega (arith, c.type_inv.sums c.loop-sum.sum-index),
      )
      | else-sum-ne0 w ↦ rw (w.n-is, w.units-is, w.last-is, w.appointments-is) (
        c.loop-sum.invariant.0 ∙ sum_none c.args.sums.now c.loop-sum.sum-index _ _ _ _ (omega arith) (omega arith),
        omega arith,
        omega arith,
        omega arith,
        omega arith,
      )
    ]

pub returns : goal.returns
returns c = c.measure_of.ensures ∙ sym (c.loop-sum.invariant.0 ∙ sum-end c.args.sums.now c.loop-sum.sum-index _ _ _ _ (omega arith))
