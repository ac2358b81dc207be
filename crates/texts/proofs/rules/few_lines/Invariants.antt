-- `few_lines` meets its contract. The loop keeps: the zeros counted and the lines from a place on are all lines.
use Rattle.std.proofs.Common.{drop, length, ◌+◌, ◌≡◌, ◌≤◌}
use Rattle.texts.specs.Notes.{lines_of}
use Rattle.texts.proofs.rules.few_lines.Given as goal

abbrev pub invariant-loop-b : goal.invariant-loop-b
invariant-loop-b l = (l.zeros ≤ l.b-index) × (length (lines_of l.s) ≡ l.zeros + length (lines_of (drop l.b-index l.s)))
