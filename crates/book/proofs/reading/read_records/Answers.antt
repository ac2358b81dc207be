-- `read_records` meets its contract. The loop's invariant: the book is what is counted so far with the walk that is left.
use Rattle.std.proofs.Common.{Ok, Some, add-one, ap, arith, refl, sym, ◌∙◌, ◌≡◌}
use Rattle.book.specs.Walk.{step_at, walk_of}
use Rattle.book.specs.Books.{accepted, counted}
use Rattle.book.proofs.Laws.Walk.{at_first, at_next, step-record, step_end, walk-record, walk_end, walk-stop}
use Rattle.prelude.proofs.Laws.Results.{err_passed}
use Rattle.book.proofs.reading.read_records.Goals as goal

pub loop-next-init : goal.loop-next-init
unfolding walk_of
loop-next-init c = (at_first c.requires, refl)

pub returns-in_err-next : goal.returns-in_err-next
unfolding counted
returns-in_err-next c =
    err_passed c.from_residual.ensures.1
    ∙ sym (c.loop-next.invariant.1 ∙ ap (counted _ _) (walk-stop c.loop-next.invariant.0 (sym c.step_at.ensures ∙ c.in_err-next.was)))

pub loop-next-smaller : goal.loop-next-smaller
loop-next-smaller c =
    let s = step-record c.args.file.now c.loop-next.at (sym c.step_at.ensures ∙ c.in_ok-next.was ∙ ap Ok c.in-Some.is) in
    omega (arith, s.0.body, s.1)

pub loop-next-preserved : goal.loop-next-preserved
unfolding counted
loop-next-preserved c =
    let stepped : step_at c.args.file.now c.loop-next.at ≡ Ok (Some c.in-Some.next) = sym c.step_at.ensures ∙ c.in_ok-next.was ∙ ap Ok c.in-Some.is in
    rw (add-one c.loop-next.records)
    (at_next c.loop-next.invariant.0 stepped, c.loop-next.invariant.1 ∙ ap (counted _ _) (walk-record c.loop-next.invariant.0 stepped))

pub after_end_record-requires : goal.after_end_record-requires
after_end_record-requires c = (step_end _ _ (sym c.step_at.ensures ∙ c.in_ok-next.was ∙ ap Ok c.in_default.is)).there

pub returns-in_err-after_end_record : goal.returns-in_err-after_end_record
unfolding counted accepted
returns-in_err-after_end_record c =
    let e = sym c.step_at.ensures ∙ c.in_ok-next.was ∙ ap Ok c.in_default.is in
    err_passed c.from_residual-in_err-after_end_record.ensures.1
    ∙ sym (c.loop-next.invariant.1 ∙ ap (counted _ _) (walk_end c.loop-next.invariant.0 e)
    ∙ ap (accepted _ _) (sym c.after_end_record.ensures ∙ c.in_err-after_end_record.was))

pub returns : goal.returns
unfolding counted accepted
returns c =
    let e = sym c.step_at.ensures ∙ c.in_ok-next.was ∙ ap Ok c.in_default.is in
    sym (c.loop-next.invariant.1 ∙ ap (counted _ _) (walk_end c.loop-next.invariant.0 e)
    ∙ ap (accepted _ _) (sym c.after_end_record.ensures ∙ c.in_ok-after_end_record.was)
    ∙ ap (λ s. Ok (record { settings = s; records = c.loop-next.records })) (sym c.settings_of.ensures))
