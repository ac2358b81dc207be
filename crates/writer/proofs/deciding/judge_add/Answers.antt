-- `judge_add` meets its contract: each return is the choice that its tests make.
use Rattle.std.proofs.Common.{ap, arith, length, sym, ℕ, ◌+◌, ◌∙◌, ◌≤◌}
use Rattle.prelude.proofs.Laws.Choice.{picks, lt_no, if_by_true}
use Rattle.records.proofs.Laws.Bodies.{note_short, length-encoded}
use Rattle.texts.specs.Notes.{most_note}
use Rattle.writer.specs.Writing.{room_refusal, add_refusal}
use Rattle.writer.proofs.deciding.judge_add.Goals as goal
use Rattle.writer.proofs.deciding.judge_add.Goals.{then-not-no_zero-via-then-not-no_zero, then-not-no_zero-via-else-not-no_zero+then-not-note_ok}

pub returns-then-not-is_open : goal.returns-then-not-is_open
unfolding add_refusal
returns-then-not-is_open c = search picks depth 25 fits 3000

pub returns-then-text-gt-MOST_TEXT : goal.returns-then-text-gt-MOST_TEXT
unfolding add_refusal
returns-then-text-gt-MOST_TEXT c = search picks depth 25 fits 3000

pub returns-then-not-record_ok : goal.returns-then-not-record_ok
unfolding add_refusal
returns-then-not-record_ok c = search picks depth 25 fits 3000

pub returns-then-not-no_zero : goal.returns-then-not-no_zero
unfolding add_refusal
returns-then-not-no_zero c =
    elim c.then-not-no_zero.branch [ then-not-no_zero-via-then-not-no_zero w ↦ search picks depth 25 fits 3000 | then-not-no_zero-via-else-not-no_zero+then-not-note_ok w ↦ search picks depth 25 fits 3000 ]

pub overflow_add-fixed_size-3 : goal.overflow_add-fixed_size-3
overflow_add-fixed_size-3 c =
    let short : length c.args.note.now ≤ most_note = note_short _ (sym c.note_ok.ensures ∙ c.if-not-note_ok.false) in omega arith

pub judge_room-requires : goal.judge_room-requires
judge_room-requires c =
    let short : length c.args.note.now ≤ most_note = note_short _ (sym c.note_ok.ensures ∙ c.if-not-note_ok.false) in omega arith

pub returns : goal.returns
unfolding add_refusal
returns c =
    if_by_true _ _ _ c.is_open.ensures c.if-not-is_open.false
    (lt_no _ _ _ (omega arith)
    (if_by_true _ _ _ c.record_ok.ensures c.if-not-record_ok.false
    (if_by_true _ _ _ c.no_zero.ensures c.if-not-no_zero.false
    (if_by_true _ _ _ c.note_ok.ensures c.if-not-note_ok.false
    (c.judge_room.ensures ∙ ap (λ (n : ℕ). room_refusal c.args.size (c.args.w.used + n)) (omega (arith, length-encoded c.args.r c.args.text.now c.args.note.now)))))))
