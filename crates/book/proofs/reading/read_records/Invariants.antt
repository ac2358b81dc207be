-- `read_records` meets its contract. The loop's invariant: the book is what is counted so far with the walk that is left.
use Rattle.std.proofs.Common.{length, ◌-◌, ◌≡◌}
use Rattle.book.specs.Walk.{walk_from, walk_of}
use Rattle.book.specs.Books.{counted}
use Rattle.book.proofs.Laws.Walk.{At}
use Rattle.book.proofs.reading.read_records.Given as goal

abbrev pub invariant-loop-next : goal.invariant-loop-next
invariant-loop-next l = At l.file l.records l.at × (counted l.file 0 (walk_of l.file) ≡ counted l.file l.records (walk_from l.file l.records l.at))

abbrev pub decreases-loop-next : goal.decreases-loop-next
decreases-loop-next l = length l.file - l.at
