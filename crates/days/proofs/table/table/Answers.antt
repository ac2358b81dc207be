-- `table` meets its contract: the table's rule, one test over all of its entries.
use Rattle.std.proofs.Common.{refl}
use Rattle.prelude.specs.Choice.{if_lt, if_eq, if_b}
use Rattle.days.specs.Dates.{leap, month_length}
use Rattle.days.specs.Days.{month_length_at}
use Rattle.days.proofs.TableRule.{entry}
use Rattle.days.proofs.table.table.Goals as goal

pub invariant_of-result : goal.invariant_of-result
unfolding month_length_at month_length leap if_lt if_eq if_b
invariant_of-result c = let t : Unit {0} = tt in record { right = record { long = refl; start = λ k h. rw entry } }
