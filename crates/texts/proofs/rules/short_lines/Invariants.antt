-- `short_lines` meets its contract. The loop keeps: all lines are short where those from `start` on are.
use Rattle.std.proofs.Common.{drop, length, ◌-◌, ◌≡◌, ◌≤◌}
use Rattle.texts.specs.Notes.{lines_of, short_lines}
use Rattle.texts.proofs.rules.short_lines.Given as goal

abbrev pub invariant-loop-start : goal.invariant-loop-start
invariant-loop-start l = (l.start ≤ length l.s) × (short_lines (lines_of l.s) ≡ short_lines (lines_of (drop l.start l.s)))

abbrev pub decreases-loop-start : goal.decreases-loop-start
decreases-loop-start l = length l.s - l.start
