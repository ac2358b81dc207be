-- `text_in` meets its contract: behind the head and the fixed bytes, as long as the record says.
use Rattle.std.proofs.Common.{arith}
use Rattle.records.proofs.Laws.Judged.{fixed_range}
use Rattle.pages.proofs.places.text_in.Goals as goal

pub overflow_add-result-2 : goal.overflow_add-result-2
overflow_add-result-2 c = let x = fixed_range c.args.t in omega arith
