-- `line_start` meets its contract. The loop keeps: line k of the note is line `left` of what is left from i on.
use Rattle.std.proofs.Common.{ap, arith, drop}
use Rattle.texts.specs.Lines.{line_start}
use Rattle.texts.proofs.Laws.Lines.{start_first, start_here_zero, start_here_other, start_end}
use Rattle.texts.proofs.lines.line_start.Goals as goal
use Rattle.texts.proofs.lines.line_start.Goals.{then-b-eq0, else-b-eq0}

pub returns-then-left-eq0 : goal.returns-then-left-eq0
returns-then-left-eq0 c =
    let t = drop c.loop-i.i c.args.s.now in
    omega (arith, ap (line_start t) c.if-left-eq0.true, start_first t)

pub loop-i-preserved : goal.loop-i-preserved
loop-i-preserved c =
    elim c.if-b-eq0.branch [
      | then-b-eq0 w ↦ rw w.left-is (omega (arith, start_here_zero c.args.s.now c.loop-i.i c.loop-i.left (omega arith) (omega arith) w.if-b-eq0.true))
      | else-b-eq0 w ↦ rw w.left-is (omega (arith, start_here_other c.args.s.now c.loop-i.i c.loop-i.left (omega arith) (omega arith) w.if-b-eq0.false))
    ]

pub returns : goal.returns
returns c = omega (arith, start_end c.args.s.now c.loop-i.i c.loop-i.left (omega arith))
