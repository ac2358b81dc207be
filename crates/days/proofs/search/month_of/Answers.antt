-- `month_of` meets its contract: after k halvings `left` months are left, from month `low` of the 45 on, and eleven leave one month.
use Rattle.std.proofs.Common.{arith, ◌≡◌}
use Rattle.days.proofs.Laws.Halving.{rest_lower, rest-upper, found_by_eleven}
use Rattle.days.proofs.search.month_of.Goals as goal
use Rattle.days.proofs.search.month_of.Goals.{then-starts-low, else-starts-low}

pub loop-k-preserved : goal.loop-k-preserved
loop-k-preserved c =
    elim c.if-starts-low.branch [
      | then-starts-low w ↦ (omega arith, rw w.low-is (rest-upper _ c.rest_of-rest.ensures.starts c.loop-k.invariant.1 c.loop-k.invariant.0 (omega arith)))
      | else-starts-low w ↦ (omega arith, rw w.low-is (rest_lower _ c.rest_of-rest.ensures.starts c.loop-k.invariant.1 c.loop-k.invariant.0 (omega arith)))
    ]

pub returns : goal.returns
returns c = let e : c.loop-k.k ≡ 11 = omega arith in
    found_by_eleven (rw e at c.loop-k.invariant.1) (c.rest_of-rest.ensures.starts.start _ (omega arith))
