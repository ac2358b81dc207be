-- `place_from` meets its contract: a cursor walks the records, and stands at record i after i - n steps.
use Rattle.std.proofs.Common.{add-one, arith, sym, ◌≡◌}
use Rattle.book.proofs.Laws.Books.{Ahead, cursor-ahead}
use Rattle.book.proofs.Laws.Entries.{cursor_at}
use Rattle.book.proofs.entries.place_from.Goals as goal

pub loop-init : goal.loop-init
loop-init c = cursor_at c.requires.first_record_in_bounds (omega arith) c.requires.place_value

pub invariant_of-next_place : goal.invariant_of-next_place
invariant_of-next_place c = record { there = (cursor-ahead _ _ _ c.loop.invariant (omega arith)).entry }

pub loop-preserved : goal.loop-preserved
loop-preserved c =
    let a : Ahead c.args.file.now c.loop.counter c.loop.at = cursor-ahead _ _ _ c.loop.invariant (omega arith) in
    rw (add-one c.loop.counter, c.next_place-at.ensures) a.next

pub returns : goal.returns
returns c =
    let a : Ahead c.args.file.now c.loop.counter c.loop.at = cursor-ahead _ _ _ c.loop.invariant (omega arith) in
    let e : c.loop.counter ≡ c.args.k = omega arith in
    (sym (rw e at a.place), c.loop.invariant.here.high)
