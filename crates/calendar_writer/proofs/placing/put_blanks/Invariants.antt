-- `put_blanks` meets its contract: the blocks so far stand in the buffer, those of the sums ahead are left, and each place is behind its block's words.
use Rattle.std.proofs.Common.{drop, get_or, length, ℕ, ◌*◌, ◌+◌, ◌<◌, ◌≡◌}
use Rattle.prelude.proofs.Laws.Grown.{Grown}
use Rattle.calendar_writer.specs.Sums.{rows, units_to, none_yet}
use Rattle.calendar_writer.proofs.placing.put_blanks.Given as goal

abbrev pub invariant-loop-k : goal.invariant-loop-k
invariant-loop-k l = Grown l.initial.out l.at (rows none_yet l.first 0 l.sums) l.out l.pos (rows none_yet (l.first + l.k) l.k (drop l.k l.sums)) × (length l.places ≡ length l.initial.places) × (l.pos ≡ l.at + 64 * units_to l.k l.sums) × ((j : ℕ) → j < l.k → get_or l.places j 0 ≡ l.at + (64 * units_to j l.sums + 10))
