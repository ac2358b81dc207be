-- `text_length` meets its contract: it is what its callees give.
use Rattle.std.proofs.Common.{arith}
use Rattle.records.proofs.Laws.Judged.{fixed_range}
use Rattle.records.proofs.fields.text_length.Goals as goal

pub overflow_sub-fixed_of : goal.overflow_sub-fixed_of
overflow_sub-fixed_of c = omega (arith, fixed_range c.args.t)
