-- `rest_from` meets its contract: the entries copied so far are the starts of the first k months.
use Rattle.std.proofs.Common.{◌≡◌, length}
use Rattle.days.specs.Table.{StartsFrom}
use Rattle.days.proofs.search.rest_from.Given as goal

abbrev pub invariant-loop-k : goal.invariant-loop-k
invariant-loop-k l = (length l.start-items ≡ 45) × StartsFrom l.first l.k l.start-items
