-- `count_lines` meets its contract: so many are counted, and so many of the records ahead fall on the day.
use Rattle.std.proofs.Common.{List, add-one, ap, arith, length, sym, zero-add, ◌∙◌}
use Rattle.sorting.specs.Keep.{keep}
use Rattle.book.proofs.Laws.Books.{cursor_first, cursor-ahead}
use Rattle.pages.specs.Pages.{Numbered, falls_on}
use Rattle.pages.proofs.Laws.Pages.{numbered_first, numbered_cursor, keep-numbered-yes, keep-numbered-no, keep-numbered_end, length_page}
use Rattle.pages.proofs.collecting.count_lines.Goals as goal
use Rattle.pages.proofs.collecting.count_lines.Goals.{then-falls_at, else-falls_at}

pub loop-init : goal.loop-init
loop-init c =
    record {
      place = cursor_first _ c.requires.long;
      most = omega arith;
      counted = ap (λ (xs : List Numbered). length (keep (falls_on c.args.c c.args.a.facts) xs)) (numbered_first c.args.file.now) ∙ sym (zero-add _);
    }

pub invariant_of-here : goal.invariant_of-here
invariant_of-here c = record { there = (cursor-ahead _ _ _ c.loop.invariant.place (omega arith)).entry }

pub loop-preserved : goal.loop-preserved
loop-preserved c =
    let t = numbered_cursor _ _ _ c.loop.invariant.place (omega arith) in
    rw (add-one c.loop.counter, c.next_place-at.ensures)
    (elim c.if-falls_at.branch [
      | then-falls_at w ↦
          let e = ap (length {A = Numbered}) (keep-numbered-yes _ _ _ t (falls_on c.args.c c.args.a.facts) (sym c.falls_at.ensures ∙ w.if-falls_at.true)) in
          record { place = t.next; most = omega arith; counted = omega arith }
      | else-falls_at w ↦
          let e = ap (length {A = Numbered}) (keep-numbered-no _ _ _ t (falls_on c.args.c c.args.a.facts) (sym c.falls_at.ensures ∙ w.if-falls_at.false)) in
          record { place = t.next; most = omega arith; counted = omega arith }
    ])

pub returns : goal.returns
returns c =
    let e = ap (length {A = Numbered}) (keep-numbered_end c.args.file.now c.loop.counter (falls_on c.args.c c.args.a.facts) (omega arith)) in
    omega (arith, length_page (falls_on c.args.c c.args.a.facts) c.args.file.now)
