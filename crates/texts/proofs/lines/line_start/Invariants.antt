-- `line_start` meets its contract. The loop keeps: line k of the note is line `left` of what is left from i on.
use Rattle.std.proofs.Common.{drop, ◌+◌, ◌≡◌}
use Rattle.texts.specs.Lines.{line_start}
use Rattle.texts.proofs.lines.line_start.Given as goal

abbrev pub invariant-loop-i : goal.invariant-loop-i
invariant-loop-i l = line_start l.s l.k ≡ l.i + line_start (drop l.i l.s) l.left
