-- `step_or_fault` meets its contract: the head's and the body's judgement choose; a head without refusal says that the body lies in the file.
use Rattle.std.proofs.Common.{Ok, Some, ap, arith, drop, length, sym, take, ℕ, ◌+◌, ◌∙◌, ◌≡◌, ◌≤◌}
use native.Mathlib.Nat.{add-sub_cancel_left}
use Rattle.prelude.proofs.Laws.Choice.{is_eq, is_ne}
use Rattle.prelude.proofs.Laws.Results.{err_passed}
use Rattle.records.specs.Bodies.{judge_body}
use Rattle.book.specs.Walk.{step_at, judge_head, type_at, body_length_at, body_at, body_step}
use Rattle.book.proofs.Laws.Walk.{head_fine, head_short}
use Rattle.book.proofs.steps.step_or_fault.Goals as goal

pub returns-then-size-at-lt-HEAD : goal.returns-then-size-at-lt-HEAD
unfolding step_at
returns-then-size-at-lt-HEAD c = rw (head_short (length c.args.file.now) c.args.at (type_at c.args.file.now c.args.at) (body_length_at c.args.file.now c.args.at) (omega arith))

pub returns-in_err-judge_head : goal.returns-in_err-judge_head
unfolding step_at
returns-in_err-judge_head c =
    rw (err_passed c.from_residual.ensures.1, sym (c.judge_head.ensures ∙ ap (judge_head _ _ _) (c.from-l.ensures ∙ c.word_in.ensures)) ∙ c.in_err-judge_head.was)

pub returns-then-t-eq-END : goal.returns-then-t-eq-END
unfolding step_at
returns-then-t-eq-END c =
    rw (sym (c.judge_head.ensures ∙ ap (judge_head _ _ _) (c.from-l.ensures ∙ c.word_in.ensures)) ∙ c.in_ok-judge_head.was) (is_eq c.if-t-eq-END.true _ _)

pub slice_bounds-judge_body-end : goal.slice_bounds-judge_body-end
slice_bounds-judge_body-end c =
    let within : c.args.at + 3 + c.from-l.result ≤ length c.args.file.now = ((head_fine (sym c.judge_head.ensures ∙ c.in_ok-judge_head.was)).known c.if-t-eq-END.false).2 in
    omega arith

pub returns-in_err-judge_body : goal.returns-in_err-judge_body
unfolding step_at body_step
returns-in_err-judge_body c =
    let body : c.judge_body.result ≡ judge_body (type_at c.args.file.now c.args.at) (body_at c.args.file.now c.args.at) =
    c.judge_body.ensures ∙ ap (λ (n : ℕ). judge_body (type_at c.args.file.now c.args.at) (take n (drop (c.args.at + 3) c.args.file.now))) (add-sub_cancel_left (c.args.at + 3) c.from-l.result ∙ c.from-l.ensures ∙ c.word_in.ensures) in
    rw (err_passed c.from_residual-in_err-judge_body.ensures.1, sym (c.judge_head.ensures ∙ ap (judge_head _ _ _) (c.from-l.ensures ∙ c.word_in.ensures)) ∙ c.in_ok-judge_head.was, sym body ∙ c.in_err-judge_body.was)
    (is_ne c.if-t-eq-END.false _ _)

pub returns : goal.returns
unfolding step_at body_step
returns c =
    let body : c.judge_body.result ≡ judge_body (type_at c.args.file.now c.args.at) (body_at c.args.file.now c.args.at) =
    c.judge_body.ensures ∙ ap (λ (n : ℕ). judge_body (type_at c.args.file.now c.args.at) (take n (drop (c.args.at + 3) c.args.file.now))) (add-sub_cancel_left (c.args.at + 3) c.from-l.result ∙ c.from-l.ensures ∙ c.word_in.ensures) in
    rw (sym (c.judge_head.ensures ∙ ap (judge_head _ _ _) (c.from-l.ensures ∙ c.word_in.ensures)) ∙ c.in_ok-judge_head.was, sym body ∙ c.in_ok-judge_body.was)
    (is_ne c.if-t-eq-END.false _ _ ∙ ap (λ (n : ℕ). Ok (Some (c.args.at + 3 + n))) (sym (c.from-l.ensures ∙ c.word_in.ensures)))
