-- `judge_list`'s loop keeps: the entries before i rise and are fine, and the walk stands at the record of the last of them.
use Rattle.std.proofs.Common.{get_or, length, ◌-◌, ◌<◌, ◌≡◌, ◌≤◌}
use Rattle.prelude.specs.Verdicts.{in_turn}
use Rattle.book.specs.Books.{places_of}
use Rattle.cancelled.specs.Cancelled.{cancelled_number, entry_verdict, list_verdict}
use Rattle.cancelled.specs.Judging.{RisesUpTo}
use Rattle.cancelled.proofs.judging.judge_list.Given as goal

abbrev pub invariant-loop-i : goal.invariant-loop-i
invariant-loop-i l = RisesUpTo l.list l.i × (l.n ≤ cancelled_number (get_or l.list (l.i - 1) 0)) × (0 < length (places_of l.file) → l.at ≡ get_or (places_of l.file) l.n 0) × (list_verdict l.file l.list ≡ in_turn (entry_verdict l.file l.list) (length l.list - l.i) l.i)
