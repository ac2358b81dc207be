-- `short_text_ends` meets its contract. The loop keeps: the first zero after the minute is the first from byte k on.
use Rattle.std.proofs.Common.{◌+◌, ◌-◌, ◌≡◌}
use Rattle.calendar.specs.Lists.{first_zero}
use Rattle.calendar.proofs.lists.short_text_ends.Given as goal

abbrev pub invariant-loop-k : goal.invariant-loop-k
invariant-loop-k l = first_zero (l.size - 4) l.file (l.at + 4) ≡ first_zero (l.size - l.k) l.file (l.at + l.k)
