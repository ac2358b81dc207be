-- `measure` meets its contract: each record that falls on the day adds its line, by `Counted`.
use Rattle.std.proofs.Common.{add-one, arith, sym, ◌+◌, ◌∙◌}
use Rattle.book.proofs.Laws.Books.{Cursor, cursor_first, cursor-ahead}
use Rattle.pages.specs.Pages.{falls_on}
use Rattle.pages.proofs.Laws.Pages.{Turn, numbered_cursor}
use Rattle.printing.proofs.Laws.Sizes.{counted_start, counted-yes, counted-no, counted_most, counted_end}
use Rattle.printing.proofs.measures.measure.Goals as goal
use Rattle.printing.proofs.measures.measure.Goals.{then-falls_at, else-falls_at}

pub loop-init : goal.loop-init
loop-init c = (cursor_first _ c.requires.long, counted_start _ _ _)

pub invariant_of-here : goal.invariant_of-here
invariant_of-here c = record { there = (cursor-ahead _ _ _ c.loop.invariant.0 (omega arith)).entry }

pub overflow_add-lines : goal.overflow_add-lines
overflow_add-lines c =
    let t : Turn c.args.file.now c.loop.counter c.loop.at = numbered_cursor _ _ _ c.loop.invariant.0 (omega arith) in
    let m = counted_most _ _ _ c.requires.long (omega (arith, c.requires.size)) c.loop.invariant.1 in
    omega arith

pub overflow_add-bytes : goal.overflow_add-bytes
overflow_add-bytes c =
    let t : Turn c.args.file.now c.loop.counter c.loop.at = numbered_cursor _ _ _ c.loop.invariant.0 (omega arith) in
    let k = counted-yes c.args.file.now c.args.a.facts (falls_on c.args.c c.args.a.facts) t c.loop.invariant.1 (sym c.falls_at.ensures ∙ c.if-falls_at.true) c.record_size-bytes.ensures in
    let m = counted_most _ _ _ c.requires.long (omega (arith, c.requires.size)) k in
    omega arith

pub loop-preserved : goal.loop-preserved
loop-preserved c =
    let t : Turn c.args.file.now c.loop.counter c.loop.at = numbered_cursor _ _ _ c.loop.invariant.0 (omega arith) in
    let next : Cursor c.args.file.now (c.loop.counter + 1) c.next_place-at.result = rw (add-one c.loop.counter, c.next_place-at.ensures) t.next in
    elim c.if-falls_at.branch [
      | then-falls_at w ↦ rw (w.lines-is, w.bytes-is) (next, counted-yes _ _ _ t c.loop.invariant.1 (sym c.falls_at.ensures ∙ w.if-falls_at.true) w.record_size-bytes.ensures)
      | else-falls_at w ↦ rw (w.lines-is, w.bytes-is) (next, counted-no _ _ _ t c.loop.invariant.1 (sym c.falls_at.ensures ∙ w.if-falls_at.false))
    ]

pub returns : goal.returns
returns c =
    let e = counted_end _ _ _ (omega arith) c.loop.invariant.1 in
    record { lines_value = e.0; bytes_value = e.1 }
