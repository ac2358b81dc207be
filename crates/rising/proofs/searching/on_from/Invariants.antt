-- `on_from` meets its contract: the numbers behind are below the one asked for, and the first that is not ends the loop.
use Rattle.rising.specs.Rising.{Below}
use Rattle.rising.proofs.searching.on_from.Given as goal

abbrev pub invariant-loop-i : goal.invariant-loop-i
invariant-loop-i l = Below l.list l.number l.i
