-- `judge_list` meets its contract: each return and each step is what the entry's verdict says.
use Rattle.std.proofs.Common.{Err, ap, arith, false, get_or, refl, sym, true, ℕ, Bool, List, ◌+◌, ◌-◌, ◌<◌, ◌∙◌, ◌≡◌}
use Rattle.prelude.proofs.Laws.Verdicts.{in-turn-first, in-turn-fine, in-turn-refused, in-turn-past}
use Rattle.book.specs.Books.{entry_at, places_of}
use Rattle.book.proofs.Laws.Books.{cursor_first, cursor-ahead}
use Rattle.book.proofs.Laws.Entries.{record_there}
use Rattle.cancelled.specs.Cancelled.{cancelled_number, cancelled_day, rises_at, may_cancel, is_beyond, list_verdict}
use Rattle.cancelled.specs.Judging.{out_of_order}
use Rattle.cancelled.proofs.Laws.Judging.{rises_up_start, rises_up_next, number_rises, in_order, refuse-out-of-order, refuse-other-day, accept-entry}
use Rattle.cancelled.proofs.judging.judge_list.Goals as goal

-- what the first test says of an entry that passes it
ordered :
    (records : ℕ) (list : List ℕ) (i : ℕ) {v : Bool} → v ≡ out_of_order records list i → v ≡ false
    → (rises_at list i ≡ true) × (cancelled_number (get_or list i 0) < records) × (is_beyond list i ≡ false)
ordered records list i e h = in_order records list i (sym e ∙ h)

-- what the second one asks
asked :
    (f : List ℕ) (e : ℕ) {at k day : ℕ} {v : Bool} → v ≡ may_cancel (entry_at f at).«record» day → at ≡ get_or (places_of f) k 0 → k ≡ cancelled_number e → day ≡ cancelled_day e
    → may_cancel (entry_at f (get_or (places_of f) (cancelled_number e) 0)).«record» (cancelled_day e) ≡ v
asked f e m a n d = sym (m ∙ rw (a, n, d))

pub loop-i-init : goal.loop-i-init
unfolding list_verdict
loop-i-init c = (rises_up_start _, omega arith, λ h. sym (cursor-ahead _ _ _ (cursor_first _ c.requires.first_record_in_bounds) h).place, in-turn-first _ _)

pub returns-then-out_of_order : goal.returns-then-out_of_order
returns-then-out_of_order c =
    sym (c.loop-i.invariant.3 ∙ in-turn-refused _ _ _ (omega arith) (sym (refuse-out-of-order _ _ _ c.requires.records_value (sym c.out_of_order.ensures ∙ c.if-out_of_order.true))) (ap Err (sym c.at.ensures)))

pub place_from-at-requires : goal.place_from-at-requires
place_from-at-requires c =
    let o = ordered _ _ _ c.out_of_order.ensures c.if-out_of_order.false in
    record { first_record_in_bounds = c.requires.first_record_in_bounds; n_le_k = omega (arith, number_rises c.args.list.now c.loop-i.i o.0, c.loop-i.invariant.1, c.cancelled_number-k.ensures); k_in_bounds = omega (arith, o.1, c.cancelled_number-k.ensures, c.requires.records_value); place_value = c.loop-i.invariant.2 (omega (arith, o.1, c.requires.records_value)) }

pub invariant_of-may_cancel : goal.invariant_of-may_cancel
invariant_of-may_cancel c =
    let o = ordered _ _ _ c.out_of_order.ensures c.if-out_of_order.false in
    record { there = rw c.place_from-at.ensures.0 (record_there _ c.requires.first_record_in_bounds _ (omega (arith, o.1, c.cancelled_number-k.ensures, c.requires.records_value))) }

pub loop-i-preserved : goal.loop-i-preserved
loop-i-preserved c =
    let o = ordered _ _ _ c.out_of_order.ensures c.if-out_of_order.false in
    let day = asked c.args.file.now (get_or c.args.list.now c.loop-i.i 0) c.may_cancel.ensures c.place_from-at.ensures.0 c.cancelled_number-k.ensures c.cancelled_day.ensures in
    let fine = accept-entry c.args.file.now c.args.list.now c.loop-i.i (omega (arith, o.1, c.requires.records_value)) o.0 o.2 (day ∙ c.if-not-may_cancel.false) in
    let e : c.loop-i.i + 1 - 1 ≡ c.loop-i.i = omega arith in (
      rises_up_next c.loop-i.invariant.0 o.0,
      rw e (omega (arith, c.cancelled_number-k.ensures)),
      λ _. c.place_from-at.ensures.0,
      c.loop-i.invariant.3 ∙ in-turn-fine _ _ _ (omega arith) (sym fine) refl,
    )

pub returns-then-not-may_cancel : goal.returns-then-not-may_cancel
returns-then-not-may_cancel c =
    let o = ordered _ _ _ c.out_of_order.ensures c.if-out_of_order.false in
    let day = asked c.args.file.now (get_or c.args.list.now c.loop-i.i 0) c.may_cancel.ensures c.place_from-at.ensures.0 c.cancelled_number-k.ensures c.cancelled_day.ensures in
    sym (c.loop-i.invariant.3 ∙ in-turn-refused _ _ _ (omega arith) (sym (refuse-other-day _ _ _ (omega (arith, o.1, c.requires.records_value)) (day ∙ c.if-not-may_cancel.true))) (ap Err (sym c.at-then-not-may_cancel.ensures)))

pub returns : goal.returns
returns c = sym (c.loop-i.invariant.3 ∙ in-turn-past _ _ _ (omega arith))
