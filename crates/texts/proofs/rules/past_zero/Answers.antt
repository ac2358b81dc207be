-- `past_zero` looks at 40 bytes, all of them in the note.
use Rattle.std.proofs.Common.{arith}
use Rattle.texts.proofs.rules.past_zero.Goals as goal

pub bounds-s-start : goal.bounds-s-start
bounds-s-start c = omega arith
