-- `fillers_from` meets its contract: what is behind are fillers, by the laws of one byte on.
use Rattle.std.proofs.Common.{length, ◌+◌, ◌-◌, ◌≡◌}
use Rattle.book.specs.Fillers.{fillers_from}
use Rattle.book.proofs.fillers.fillers_from.Given as goal

abbrev pub invariant-loop-i : goal.invariant-loop-i
invariant-loop-i l = fillers_from (length l.file - l.from) l.file l.from ≡ fillers_from (length l.file - (l.from + l.i)) l.file (l.from + l.i)
