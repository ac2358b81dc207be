-- The chain is linked as what is left of it from here on.
use Rattle.std.proofs.Common.{length, ◌<◌, ◌≡◌, ◌-◌}
use Rattle.chains.specs.Chains.{walk, linked}
use Rattle.chains.proofs.records.Records.judge_links.Given as goal

abbrev pub invariant-loop : goal.invariant-loop
invariant-loop l =
    (l.here < length l.self.next.now)
    × (linked l.self.previous.now l.self.next.now (walk (length l.self.next.now) l.self.next.now l.head) ≡ linked l.self.previous.now l.self.next.now (walk (l.end - l.counter) l.self.next.now l.here))
