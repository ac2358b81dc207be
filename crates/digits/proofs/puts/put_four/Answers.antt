-- `put_four` meets its contract: two pieces, one behind the other.
use Rattle.std.proofs.Common.{arith}
use Rattle.prelude.proofs.Laws.Splice.{splice-then}
use Rattle.digits.specs.Digits.{two, four}
use Rattle.digits.proofs.puts.put_four.Goals as goal

pub put_two-middle-requires : goal.put_two-middle-requires
unfolding two four
put_two-middle-requires c = omega arith

pub put_two-requires : goal.put_two-requires
unfolding two four
put_two-requires c = omega arith

pub returns-clause-next : goal.returns-clause-next
unfolding two four
returns-clause-next c = omega arith

pub returns-clause-put : goal.returns-clause-put
unfolding four
returns-clause-put c = splice-then _ _ _ _ _ _ _ (omega arith) c.put_two-middle.ensures.next c.put_two-middle.ensures.put c.put_two.ensures.put
