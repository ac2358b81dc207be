-- `rest_of` meets its contract: three halvings of the 1,440 months, each by an entry of the table; then those of `rest_of_180`.
-- the months that each test leaves
use Rattle.std.proofs.Common.{arith}
use Rattle.days.specs.Halving.{Narrowed}
use Rattle.days.proofs.Laws.Halving.{narrowed_by_none, table-lower, table-upper}
use Rattle.days.proofs.search.rest_of.Goals as goal

pub rest_of_180-requires : goal.rest_of_180-requires
rest_of_180-requires c = table-lower c.table-t.result.right (let then2 : Narrowed c.args.n 2 0 360 = table-lower c.table-t.result.right (let then1 : Narrowed c.args.n 1 0 720 = table-lower c.table-t.result.right (narrowed_by_none c.requires) (omega arith) in then1) (omega arith) in then2) (omega arith)

pub rest_of_180-requires-then-n-t-2 : goal.rest_of_180-requires-then-n-t-2
rest_of_180-requires-then-n-t-2 c = table-upper c.table-t.result.right (let then2 : Narrowed c.args.n 2 0 360 = table-lower c.table-t.result.right (let then1 : Narrowed c.args.n 1 0 720 = table-lower c.table-t.result.right (narrowed_by_none c.requires) (omega arith) in then1) (omega arith) in then2) (omega arith)

pub rest_of_180-requires-then-n-t-4 : goal.rest_of_180-requires-then-n-t-4
rest_of_180-requires-then-n-t-4 c = table-lower c.table-t.result.right (let else2 : Narrowed c.args.n 2 360 360 = table-upper c.table-t.result.right (let then1 : Narrowed c.args.n 1 0 720 = table-lower c.table-t.result.right (narrowed_by_none c.requires) (omega arith) in then1) (omega arith) in else2) (omega arith)

pub rest_of_180-requires-then-n-t : goal.rest_of_180-requires-then-n-t
rest_of_180-requires-then-n-t c = table-upper c.table-t.result.right (let else2 : Narrowed c.args.n 2 360 360 = table-upper c.table-t.result.right (let then1 : Narrowed c.args.n 1 0 720 = table-lower c.table-t.result.right (narrowed_by_none c.requires) (omega arith) in then1) (omega arith) in else2) (omega arith)

pub rest_of_180-requires-then-n-t-6 : goal.rest_of_180-requires-then-n-t-6
rest_of_180-requires-then-n-t-6 c = table-lower c.table-t.result.right (let then5 : Narrowed c.args.n 2 720 360 = table-lower c.table-t.result.right (let else1 : Narrowed c.args.n 1 720 720 = table-upper c.table-t.result.right (narrowed_by_none c.requires) (omega arith) in else1) (omega arith) in then5) (omega arith)

pub rest_of_180-requires-then-n-t-5 : goal.rest_of_180-requires-then-n-t-5
rest_of_180-requires-then-n-t-5 c = table-upper c.table-t.result.right (let then5 : Narrowed c.args.n 2 720 360 = table-lower c.table-t.result.right (let else1 : Narrowed c.args.n 1 720 720 = table-upper c.table-t.result.right (narrowed_by_none c.requires) (omega arith) in else1) (omega arith) in then5) (omega arith)

pub rest_of_180-requires-then-n-t-7 : goal.rest_of_180-requires-then-n-t-7
rest_of_180-requires-then-n-t-7 c = table-lower c.table-t.result.right (let else5 : Narrowed c.args.n 2 1080 360 = table-upper c.table-t.result.right (let else1 : Narrowed c.args.n 1 720 720 = table-upper c.table-t.result.right (narrowed_by_none c.requires) (omega arith) in else1) (omega arith) in else5) (omega arith)

pub rest_of_180-requires-2 : goal.rest_of_180-requires-2
rest_of_180-requires-2 c = table-upper c.table-t.result.right (let else5 : Narrowed c.args.n 2 1080 360 = table-upper c.table-t.result.right (let else1 : Narrowed c.args.n 1 720 720 = table-upper c.table-t.result.right (narrowed_by_none c.requires) (omega arith) in else1) (omega arith) in else5) (omega arith)
