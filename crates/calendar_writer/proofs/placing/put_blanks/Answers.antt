-- `put_blanks` meets its contract: the blocks so far stand in the buffer, those of the sums ahead are left, and each place is behind its block's words.
use Rattle.std.proofs.Common.{[], add-zero, add_assoc, arith, below_more, get_or-set_other, get_or-set_same, length-set, refl, ◌+◌, ◌∙◌}
use Rattle.prelude.proofs.Laws.Grown.{grown_start, grown-space, grown-more, grown-rest-equal, grown-end}
use Rattle.calendar_writer.specs.Sums.{row_of, none_yet}
use Rattle.calendar_writer.proofs.Laws.Turns.{rows_end, rows_more}
use Rattle.calendar_writer.proofs.Laws.Rows.{blank_step, units_first}
use Rattle.calendar_writer.proofs.Laws.Filling.{place_none}
use Rattle.calendar_writer.proofs.placing.put_blanks.Goals as goal

pub loop-k-init : goal.loop-k-init
loop-k-init c = (rw (add-zero c.args.first) (grown_start c.requires.sums_in_bounds), refl, omega (arith, units_first c.args.sums.now), λ j h. absurd (omega arith))

pub put_blank-pos-requires : goal.put_blank-pos-requires
put_blank-pos-requires c = grown-space (row_of _ _ []) _ (grown-rest-equal (rows_more c.args.sums.now c.loop-k.k none_yet (c.args.first + c.loop-k.k) (omega arith)) c.loop-k.invariant.0)

pub loop-k-preserved : goal.loop-k-preserved
loop-k-preserved c = (
  rw (← add_assoc c.args.first c.loop-k.k 1)
      (grown-more (row_of _ _ []) (grown-rest-equal (rows_more c.args.sums.now c.loop-k.k none_yet (c.args.first + c.loop-k.k) (omega arith)) c.loop-k.invariant.0) c.put_blank-pos.ensures.next c.put_blank-pos.ensures.put),
  length-set c.loop-k.places c.loop-k.k (c.loop-k.pos + 10) ∙ c.loop-k.invariant.1,
  omega (arith, c.put_blank-pos.ensures.next, blank_step (c.args.first + c.loop-k.k) c.loop-k.k c.args.sums.now (omega arith), c.loop-k.invariant.2),
  below_more _ _
      (λ j i. get_or-set_other c.loop-k.places c.loop-k.k j (c.loop-k.pos + 10) 0 (λ q. omega arith) ∙ c.loop-k.invariant.3 j i)
      (get_or-set_same c.loop-k.places c.loop-k.k (c.loop-k.pos + 10) 0 (omega arith) ∙ omega (arith, c.loop-k.invariant.2)),
)

pub returns : goal.returns
returns c =
    let f = grown-end (grown-rest-equal (rows_end c.args.sums.now c.loop-k.k none_yet (c.args.first + c.loop-k.k) (omega arith)) c.loop-k.invariant.0) in
    record { next = f.0; put = record { stands = f.1; place = λ i h. rw (place_none c.args.sums.now i) (c.loop-k.invariant.3 i (omega arith)) } }
