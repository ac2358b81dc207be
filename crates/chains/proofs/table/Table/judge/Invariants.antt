-- The first bad entry is the first from i on, and low is the least date of i.
use Rattle.std.proofs.Common.{◌-◌, ◌+◌, ◌≡◌}
use Rattle.prelude.specs.Verdicts.{in_turn}
use Rattle.chains.specs.Chains.{entry_verdict}
use Rattle.chains.specs.Dates.{least_date}
use Rattle.chains.proofs.table.Table.judge.Given as goal

abbrev pub invariant-loop-i : goal.invariant-loop-i
invariant-loop-i l =
    (l.low ≡ least_date l.self.bytes.now l.i)
    × (in_turn (entry_verdict l.self.bytes.now) (l.self.days + 1) 0 ≡ in_turn (entry_verdict l.self.bytes.now) (l.self.days + 1 - l.i) l.i)
