-- `collect` meets its contract: the codes so far, and those of the records ahead that fall on the day, are all there are.
use Rattle.std.proofs.Common.{List, add-one, ap, arith, length-set, map, refl, suc, sym, take, ℕ, ◌++◌, ◌∙◌, ◌∷◌, ◌≡◌}
use Rattle.sorting.specs.Keep.{keep}
use Rattle.days.specs.declared.types.Minute.{Minute}
use Rattle.book.proofs.Laws.Books.{cursor_first, cursor-ahead}
use Rattle.pages.specs.Pages.{Numbered, falls_on}
use Rattle.pages.specs.Codes.{code_with, code}
use Rattle.pages.proofs.Laws.Codes.{code_at, codes_push, codes_behind, append_nil_whole}
use Rattle.pages.proofs.Laws.Pages.{numbered_at, numbered_first, numbered_cursor, keep-numbered-yes, keep-numbered-no, keep-numbered_end}
use Rattle.pages.specs.Invariants.{record_at}
use Rattle.pages.proofs.collecting.collect.Goals as goal
use Rattle.pages.proofs.collecting.collect.Goals.{then-falls_at, else-falls_at}

pub loop-number-init : goal.loop-number-init
loop-number-init c =
    record {
      place = cursor_first _ c.requires.ready_book.long;
      most = omega arith;
      room = refl;
      collected = ap (λ (xs : List Numbered). map code (keep (falls_on c.args.c c.args.a.facts) xs)) (numbered_first c.args.file.now);
      behind = refl;
    }

pub invariant_of-here : goal.invariant_of-here
invariant_of-here c = record { there = (cursor-ahead _ _ _ c.loop-number.invariant.place (omega arith)).entry }

pub loop-number-preserved : goal.loop-number-preserved
loop-number-preserved c =
    let t = numbered_cursor _ _ _ c.loop-number.invariant.place (omega arith) in
    rw (add-one c.loop-number.number, c.next_place-at.ensures)
    (elim c.if-falls_at.branch [
      | then-falls_at w ↦
          let e = keep-numbered-yes _ _ _ t (falls_on c.args.c c.args.a.facts) (sym c.falls_at.ensures ∙ w.if-falls_at.true) in
          let v : w.code_of.result ≡ code (record_at c.args.file.now c.loop-number.number c.loop-number.at) =
          w.code_of.ensures ∙ ap (λ (x : Minute). code_with x.0 c.loop-number.number c.loop-number.at) w.start_at.ensures
          ∙ sym (code_at c.args.file.now c.loop-number.number c.loop-number.at (omega arith) (omega arith)) in
          let x = c.loop-number.invariant.collected ∙ ap (λ (xs : List Numbered). take c.loop-number.count c.loop-number.codes ++ map code xs) e
          ∙ ap (λ (x : ℕ). take c.loop-number.count c.loop-number.codes ++ (x ∷ map code (keep (falls_on c.args.c c.args.a.facts) (numbered_at c.args.file.now (suc c.loop-number.number))))) (sym v) in
          rw (w.count-is, w.codes-is)
          (record {
            place = t.next;
            most = omega arith;
            room = length-set c.loop-number.codes c.loop-number.count w.code_of.result ∙ c.loop-number.invariant.room;
            collected = codes_push c.loop-number.codes c.loop-number.count _ _ _ (omega arith) x;
            behind = codes_behind c.loop-number.codes _ c.loop-number.count w.code_of.result c.loop-number.invariant.behind;
          })
      | else-falls_at w ↦
          let e = keep-numbered-no _ _ _ t (falls_on c.args.c c.args.a.facts) (sym c.falls_at.ensures ∙ w.if-falls_at.false) in
          let x = c.loop-number.invariant.collected ∙ ap (λ (xs : List Numbered). take c.loop-number.count c.loop-number.codes ++ map code xs) e in
          rw (w.count-is, w.codes-is)
          (record { place = t.next; most = omega arith; room = c.loop-number.invariant.room; collected = x; behind = c.loop-number.invariant.behind })
    ])

pub returns : goal.returns
returns c =
    let e = ap (map code) (keep-numbered_end c.args.file.now c.loop-number.number (falls_on c.args.c c.args.a.facts) (omega arith)) in
    record { upper_bound = omega arith; codes_after = append_nil_whole _ _ c.loop-number.invariant.collected e; codes_unchanged = c.loop-number.invariant.behind }
