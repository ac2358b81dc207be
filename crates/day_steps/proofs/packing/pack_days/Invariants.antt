-- `pack_days` meets its contract: so far each day stands at its place, and g is the next one's facts.
use Rattle.std.proofs.Common.{get_or, length, ℕ, ◌+◌, ◌<◌, ◌≡◌}
use Rattle.days.specs.Facts.{facts_of}
use Rattle.day_steps.specs.Codes.{day_code}
use Rattle.day_steps.proofs.packing.pack_days.Given as goal

abbrev pub invariant-loop-day : goal.invariant-loop-day
invariant-loop-day l = (length l.day-items ≡ length l.initial.day-items) × (l.day-index < length l.day-items → l.g ≡ facts_of (l.initial.g.day.0 + l.day-index)) × ((j : ℕ) → j < l.day-index → get_or l.day-items j 0 ≡ day_code (facts_of (l.initial.g.day.0 + j)))
