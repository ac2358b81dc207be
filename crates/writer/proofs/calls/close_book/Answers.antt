-- `close_book` meets its contract: the judgement decides both the answer and the buffer.
use Rattle.std.proofs.Common.{ap, arith, sym, true, ℕ, ◌∙◌}
use Rattle.prelude.proofs.Laws.Results.{err_passed}
use Rattle.writer.specs.Writing.{passed, close_gives, close_leaves}
use Rattle.writer.proofs.Laws.Calls.{close_facts, gives-fine, leaves-fine, passed-fine, passed-gives, passed-leaves}
use Rattle.writer.proofs.calls.close_book.Goals as goal

pub returns-in_err-passed : goal.returns-in_err-passed
unfolding close_gives close_leaves
returns-in_err-passed c =
    let h = sym (ap (λ j. passed j c.args.w) c.judge_close.ensures) ∙ (sym c.passed.ensures ∙ c.in_err-passed.was) in
    record { gives = passed-gives _ _ _ h (err_passed c.from_residual.ensures.1); leaves = passed-leaves _ _ _ _ _ h }

pub copy_in-used-requires : goal.copy_in-used-requires
copy_in-used-requires c = omega (arith, (close_facts _ _ (sym c.judge_close.ensures ∙ passed-fine _ _ (sym c.passed.ensures ∙ c.in_ok-passed.was))).buffer)

pub returns : goal.returns
unfolding close_gives close_leaves
returns c =
    let e = sym c.judge_close.ensures ∙ passed-fine _ _ (sym c.passed.ensures ∙ c.in_ok-passed.was) in
    record {
      gives = gives-fine _ _ e (ap (λ (u : ℕ). record { used = u; closed = true }) c.copy_in-used.ensures.next);
      leaves = leaves-fine _ _ _ e c.copy_in-used.ensures.put;
    }
