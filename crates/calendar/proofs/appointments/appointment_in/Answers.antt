-- `appointment_in` meets its contract: a cursor walks the list up to appointment k, or to its end.
use Rattle.std.proofs.Common.{Ok, add-one, ap, arith, get_or, refl, sym, ℕ, ◌∙◌, ◌≡◌}
use Rattle.prelude.proofs.Laws.Choice.{lt_yes, lt_no}
use Rattle.calendar.specs.Lists.{list_walk_from, places_in_list}
use Rattle.calendar.specs.Shown.{shown_at, appointment_among}
use Rattle.calendar.proofs.Laws.Appointments.{ListAhead, cursor-ahead, cursor_done}
use Rattle.calendar.proofs.appointments.appointment_in.Goals as goal

pub shown_at-requires : goal.shown_at-requires
shown_at-requires c = let a = (let ahead : ListAhead c.args.file.now c.args.span.end (places_in_list (list_walk_from c.args.file.now c.args.span.end 0 c.args.span.from)) c.loop-at.i c.loop-at.at = cursor-ahead c.loop-at.invariant.0 (omega arith) in ahead) in record { size = a.size; inside = omega arith }

pub returns-then-i-k : goal.returns-then-i-k
unfolding appointment_among
returns-then-i-k c =
    let a = (let ahead : ListAhead c.args.file.now c.args.span.end (places_in_list (list_walk_from c.args.file.now c.args.span.end 0 c.args.span.from)) c.loop-at.i c.loop-at.at = cursor-ahead c.loop-at.invariant.0 (omega arith) in ahead) in
    let ps = places_in_list (list_walk_from c.args.file.now c.args.span.end 0 c.args.span.from) in
    let e : get_or ps c.args.k 0 ≡ c.loop-at.at = ap (λ (j : ℕ). get_or ps j 0) (omega arith) ∙ a.place in
    lt_yes _ _ _ (omega arith) (ap Ok (c.shown_at.ensures ∙ ap (shown_at c.args.file.now) (sym e)))

pub loop-at-smaller : goal.loop-at-smaller
loop-at-smaller c = let a = (let ahead : ListAhead c.args.file.now c.args.span.end (places_in_list (list_walk_from c.args.file.now c.args.span.end 0 c.args.span.from)) c.loop-at.i c.loop-at.at = cursor-ahead c.loop-at.invariant.0 (omega arith) in ahead) in omega arith

pub loop-at-preserved : goal.loop-at-preserved
loop-at-preserved c =
    let a = (let ahead : ListAhead c.args.file.now c.args.span.end (places_in_list (list_walk_from c.args.file.now c.args.span.end 0 c.args.span.from)) c.loop-at.i c.loop-at.at = cursor-ahead c.loop-at.invariant.0 (omega arith) in ahead) in
    (rw (add-one c.loop-at.i, c.size_at-at.ensures.0) a.next, omega arith)

pub returns : goal.returns
unfolding appointment_among
returns c = lt_no _ _ _ (omega (arith, cursor_done c.loop-at.invariant.0 (omega arith))) refl
