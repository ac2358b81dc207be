-- `next_after` meets its contract: a weekly rule by its callee, any other past its last date or its gap (`after-gap`) and on from there.
use Rattle.std.proofs.Common.{arith}
use Rattle.occurrences.proofs.Laws.After.{gap_bounds, after_last, after-gap}
use Rattle.occurrences.proofs.hits.next_after.Goals as goal

pub returns-then-r-date_in : goal.returns-then-r-date_in
returns-then-r-date_in c = after_last c.requires.days.spanned c.args.c c.args.r c.args.j (omega arith) (omega arith)

pub overflow_add-j : goal.overflow_add-j
overflow_add-j c = omega (arith, c.gap_of.ensures, (gap_bounds c.args.r.kind).most)

pub returns : goal.returns
returns c = after-gap c.requires.days.spanned c.args.c c.args.r c.args.j (omega arith) c.if-r-eq2.false c.requires.j_value c.gap_of.ensures c.next_from.ensures
