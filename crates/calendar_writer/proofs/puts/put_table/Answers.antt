-- `put_table` meets its contract: the descriptors so far stand in the buffer, and those of the sums ahead are left.
use Rattle.std.proofs.Common.{add_assoc, arith, ◌+◌}
use Rattle.prelude.proofs.Laws.Grown.{grown-space, grown-more, grown-rest-equal, grown-end}
use Rattle.calendar_writer.specs.Sums.{descriptor_of}
use Rattle.calendar_writer.proofs.Laws.Turns.{table-end, table_none, table-some}
use Rattle.calendar_writer.proofs.puts.put_table.Goals as goal
use Rattle.calendar_writer.proofs.puts.put_table.Goals.{then-sum-ne0, else-sum-ne0}

pub put_descriptor-pos-requires : goal.put_descriptor-pos-requires
put_descriptor-pos-requires c =
    rw c.alarms_in.ensures
    (grown-space (descriptor_of _ _ _) _ (grown-rest-equal (table-some c.args.sums.now c.loop-k.k (c.args.first + c.loop-k.k) c.loop-k.u (omega arith) c.if-sum-ne0.true) c.loop-k.invariant.0))

pub loop-k-preserved : goal.loop-k-preserved
loop-k-preserved c =
    rw (← add_assoc c.args.first c.loop-k.k 1)
    (elim c.if-sum-ne0.branch [
      | then-sum-ne0 w ↦ rw (w.pos-is, w.u-is, w.out-is, w.units_for-u.ensures) (
        grown-more (descriptor_of _ _ _)
            (grown-rest-equal (table-some c.args.sums.now c.loop-k.k (c.args.first + c.loop-k.k) c.loop-k.u (omega arith) w.if-sum-ne0.true) c.loop-k.invariant.0)
            (rw w.alarms_in.ensures at w.put_descriptor-pos.ensures.next)
            (rw w.alarms_in.ensures at w.put_descriptor-pos.ensures.put),
        omega arith,
      )
      | else-sum-ne0 w ↦ rw (w.pos-is, w.u-is, w.out-is) (
        grown-rest-equal (table_none c.args.sums.now c.loop-k.k (c.args.first + c.loop-k.k) c.loop-k.u (omega arith) (omega arith)) c.loop-k.invariant.0,
        omega arith,
      )
    ])

pub returns : goal.returns
returns c = let whole = grown-end (grown-rest-equal (table-end c.args.sums.now c.loop-k.k (c.args.first + c.loop-k.k) c.loop-k.u (omega arith)) c.loop-k.invariant.0) in record { next = whole.0; put = whole.1 }
