-- `copy_in` meets its contract. The invariant: `dst` has the first j bytes of `src` pasted in.
use Rattle.std.proofs.Common.{◌≡◌}
use lib.Seq.{paste}
use Rattle.prelude.proofs.slices.copy_in.Given as goal

abbrev pub invariant-loop-j : goal.invariant-loop-j
invariant-loop-j l = l.dst ≡ paste l.initial.dst l.at l.src l.j
