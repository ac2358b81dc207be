-- The marks are those of the heads of the entries before i, and the first bad one is the first from i on.
use Rattle.std.proofs.Common.{length, map, ◌-◌, ◌≡◌}
use Rattle.prelude.specs.Bytes.{bit}
use Rattle.prelude.specs.Verdicts.{in_turn}
use Rattle.chains.specs.Chains.{head_verdict}
use Rattle.chains.specs.Marks.{marks}
use Rattle.chains.proofs.heads.mark_heads.Given as goal

abbrev pub invariant-loop-i : goal.invariant-loop-i
invariant-loop-i g l =
    (length l.met ≡ g.row.N)
    × (map bit l.met ≡ marks g.row.N l.table.bytes.now l.i)
    × (in_turn (head_verdict l.table.bytes.now l.previous) l.table.days 0 ≡ in_turn (head_verdict l.table.bytes.now l.previous) (l.table.days - l.i) l.i)
