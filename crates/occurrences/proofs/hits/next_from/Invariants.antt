-- `next_from` meets its contract: no day passed shows, the skipped ones by `spanned_not`.
use Rattle.std.proofs.Common.{◌≡◌, ℕ, ◌-◌, ◌<◌, ◌≤◌, false, length, get_or}
use Rattle.occurrences.specs.Rules.{rule_shows}
use Rattle.occurrences.proofs.hits.next_from.Given as goal

abbrev pub invariant-loop-j : goal.invariant-loop-j
invariant-loop-j l = (l.from ≤ l.j) × ((k : ℕ) → l.from ≤ k → k < l.j → k < length l.days → rule_shows l.c l.r (get_or l.days k 0) ≡ false)

abbrev pub decreases-loop-j : goal.decreases-loop-j
decreases-loop-j l = length l.days - l.j
