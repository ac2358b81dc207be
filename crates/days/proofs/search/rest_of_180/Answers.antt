-- `rest_of_180` meets its contract: two halvings of the 180 months, each by an entry of the table.
-- the lower and the upper 90 months
use Rattle.std.proofs.Common.{arith, ◌+◌}
use Rattle.days.specs.Halving.{Narrowed}
use Rattle.days.proofs.Laws.Halving.{table-lower, table-upper, narrowed_by_five}
use Rattle.days.proofs.search.rest_of_180.Goals as goal

pub returns-then-n-t-2 : goal.returns-then-n-t-2
returns-then-n-t-2 c = narrowed_by_five c.rest_from.ensures (table-lower c.args.t.now.right (let low : Narrowed c.args.n 4 c.args.first 90 = table-lower c.args.t.now.right c.requires (omega arith) in low) (omega arith))

pub returns-then-n-t : goal.returns-then-n-t
returns-then-n-t c = narrowed_by_five c.rest_from-then-n-t.ensures (table-upper c.args.t.now.right (let low : Narrowed c.args.n 4 c.args.first 90 = table-lower c.args.t.now.right c.requires (omega arith) in low) (omega arith))

pub returns-then-n-t-3 : goal.returns-then-n-t-3
returns-then-n-t-3 c = narrowed_by_five c.rest_from-then-n-t-3.ensures (table-lower c.args.t.now.right (let high : Narrowed c.args.n 4 (c.args.first + 90) 90 = table-upper c.args.t.now.right c.requires (omega arith) in high) (omega arith))

pub returns : goal.returns
returns c = narrowed_by_five c.rest_from-2.ensures (table-upper c.args.t.now.right (let high : Narrowed c.args.n 4 (c.args.first + 90) 90 = table-upper c.args.t.now.right c.requires (omega arith) in high) (omega arith))
