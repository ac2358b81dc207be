-- `put_byte` meets its contract: an element stored in place is a piece of one.
use Rattle.std.proofs.Common.{arith}
use Rattle.prelude.proofs.Laws.Grown.{set-splice}
use Rattle.digits.proofs.puts.put_byte.Goals as goal

pub returns-clause-put : goal.returns-clause-put
returns-clause-put c = set-splice _ c.args.at _ (omega arith)
