-- `line_at` meets its contract: a line begins inside the note or at its end.
use Rattle.std.proofs.Common.{arith}
use Rattle.texts.proofs.Laws.Lines.{line_inside}
use Rattle.texts.proofs.lines.line_at.Goals as goal

pub slice_bounds-to_zero-count : goal.slice_bounds-to_zero-count
slice_bounds-to_zero-count c = omega (arith, line_inside c.args.s.now c.args.k)

pub slice_bounds-to_zero-start : goal.slice_bounds-to_zero-start
slice_bounds-to_zero-start c = omega (arith, line_inside c.args.s.now c.args.k)
