-- `put_head` meets its contract: its writes are one, of all pieces in a row.
use Rattle.std.proofs.Common.{arith}
use Rattle.printing.specs.Printed.{head_line}
use Rattle.printing.proofs.Laws.Puts.{splice_on, length_both, regrouped}
use Rattle.printing.proofs.puts.put_head.Goals as goal

pub returns-clause-put : goal.returns-clause-put
unfolding head_line
returns-clause-put c = grind (arith, splice_on, length_both, regrouped)
