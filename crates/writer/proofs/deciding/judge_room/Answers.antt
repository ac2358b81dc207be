-- `judge_room` meets its contract: nothing wraps, since more than 65,535 bytes used is refused before the sum; then both tests are made at once.
use Rattle.std.proofs.Common.{Err, Result, arith, refl, sym, ◌+◌, ◌≡◌}
use Rattle.prelude.proofs.Laws.Choice.{lt_elim, lt_yes}
use Rattle.prelude.specs.declared.refusals.Fault.{Fault}
use Rattle.book.specs.Books.{most_book_bytes}
use Rattle.writer.specs.Writing.{room_refusal}
use Rattle.writer.proofs.Laws.Calls.{facts_room}
use Rattle.writer.proofs.deciding.judge_room.Goals as goal

pub returns-then-used-gt-MOST_BOOK_BYTES : goal.returns-then-used-gt-MOST_BOOK_BYTES
unfolding room_refusal
returns-then-used-gt-MOST_BOOK_BYTES c = lt_elim (λ (z : Result (Unit {0}) Fault). Err Fault.NoRoom ≡ z) c.args.size (c.args.used + c.args.more + 3) _ _ (λ _. refl) (λ within. lt_yes most_book_bytes (c.args.used + c.args.more + 3) _ (omega arith) refl)

pub returns-then-min-end : goal.returns-then-min-end
unfolding room_refusal
returns-then-min-end c = lt_elim (λ (z : Result (Unit {0}) Fault). Err Fault.NoRoom ≡ z) c.args.size (c.args.used + c.args.more + 3) _ _ (λ _. refl) (λ within. lt_yes most_book_bytes (c.args.used + c.args.more + 3) _ (omega arith) refl)

pub returns : goal.returns
returns c = sym (facts_room _ _ (record { buffer = omega arith; book = omega arith }))
