-- `line_count` meets its contract. The loop keeps: the lines counted and those from `start` on are all.
use Rattle.std.proofs.Common.{drop, length, ◌+◌, ◌-◌, ◌≡◌, ◌≤◌}
use Rattle.texts.specs.Notes.{lines_of}
use Rattle.texts.proofs.lines.line_count.Given as goal

abbrev pub invariant-loop-start : goal.invariant-loop-start
invariant-loop-start l = (l.lines ≤ l.start) × (length (lines_of l.s) ≡ l.lines + length (lines_of (drop l.start l.s)))

abbrev pub decreases-loop-start : goal.decreases-loop-start
decreases-loop-start l = length l.s - l.start
