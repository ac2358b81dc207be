-- The chain is ordered as what is left of it from here on, after rank low.
use Rattle.std.proofs.Common.{length, ◌<◌, ◌≡◌}
use Rattle.chains.specs.Chains.{walk, ordered}
use Rattle.chains.specs.Ranks.{ranked}
use Rattle.chains.specs.Stages.{EndsIn, ahead}
use Rattle.chains.proofs.records.Records.judge_order.Given as goal

abbrev pub invariant-loop-here : goal.invariant-loop-here
invariant-loop-here l =
    (l.here < length l.self.next.now → EndsIn l.self.next.now l.here (length l.self.next.now))
    × (ordered l.self.kinds.now l.self.minutes.now (walk (length l.self.next.now) l.self.next.now l.head) ≡ ranked l.self.kinds.now l.self.minutes.now l.low (ahead l.self.next.now l.here))
    × (0 < l.low)

abbrev pub decreases-loop-here : goal.decreases-loop-here
decreases-loop-here l = length (ahead l.self.next.now l.here)
