-- `on_from` meets its contract: the numbers behind are below the one asked for, and the first that is not ends the loop.
use Rattle.std.proofs.Common.{arith}
use Rattle.rising.proofs.Laws.Rising.{below-here}
use Rattle.rising.proofs.searching.on_from.Goals as goal

pub returns-then-number-list : goal.returns-then-number-list
returns-then-number-list c = below-here c.loop-i.invariant c.requires.rising (omega arith)
