-- `line_count` meets its contract. The loop keeps: the lines counted and those from `start` on are all.
use Rattle.std.proofs.Common.{ap, arith, length, ◌+◌, ◌≡◌}
use Rattle.texts.proofs.Laws.Notes.{line_here, line-fits, count_next, lines_end}
use Rattle.texts.proofs.lines.line_count.Goals as goal

pub overflow_add-start : goal.overflow_add-start
overflow_add-start c = omega (arith, line-fits (line_here c.args.s.now c.loop-start.start c.loop-start-test.true c.to_zero.ensures))

pub overflow_add-start-in-loop-start : goal.overflow_add-start-in-loop-start
overflow_add-start-in-loop-start c = omega (arith, line-fits (line_here c.args.s.now c.loop-start.start c.loop-start-test.true c.to_zero.ensures))

pub loop-start-preserved : goal.loop-start-preserved
loop-start-preserved c =
    let line = line_here c.args.s.now c.loop-start.start c.loop-start-test.true c.to_zero.ensures in
    let fits = line-fits line in
    let e : c.loop-start.start + (c.to_zero.result + 1) ≡ c.loop-start.start + c.to_zero.result + 1 = omega arith in
    rw e (omega (arith, count_next line))

pub returns : goal.returns
returns c = omega (arith, ap length (lines_end c.args.s.now c.loop-start.start (omega arith)))
