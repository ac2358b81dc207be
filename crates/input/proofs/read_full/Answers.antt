-- `read_full` meets its contract: what is read stays inside the buffer.
use Rattle.std.proofs.Common.{arith, length-append, length-take, length-drop}
use Rattle.input.proofs.read_full.Goals as goal

pub loop-done-preserved : goal.loop-done-preserved
loop-done-preserved g c = simp (length-append, length-take, length-drop) (omega (arith, c.in-Ok.ensures.bound))
