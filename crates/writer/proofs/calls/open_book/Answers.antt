-- `open_book` meets its contract: the judgement decides both the answer and the buffer.
use Rattle.std.proofs.Common.{List, ap, arith, false, length, sym, ℕ, ◌∙◌, ◌≡◌}
use Rattle.prelude.specs.Splice.{splice}
use Rattle.prelude.proofs.Laws.Results.{err_passed}
use Rattle.writer.specs.Writing.{passed, open_gives, open_leaves}
use Rattle.writer.proofs.Laws.Calls.{length_open, open_facts, settings_lead, gives-fine, leaves-fine, passed-fine, passed-gives, passed-leaves}
use Rattle.writer.proofs.calls.open_book.Goals as goal

pub returns-in_err-passed : goal.returns-in_err-passed
unfolding open_gives open_leaves
returns-in_err-passed c =
    let h = sym (ap (λ j. passed j _) c.judge_open.ensures) ∙ (sym c.passed.ensures ∙ c.in_err-passed.was) in
    record { gives = passed-gives _ _ _ h (err_passed c.from_residual.ensures.1); leaves = passed-leaves _ _ _ _ _ h }

pub open_bytes-requires : goal.open_bytes-requires
open_bytes-requires c = omega (arith, settings_lead _ (open_facts _ _ (sym c.judge_open.ensures ∙ passed-fine _ _ (sym c.passed.ensures ∙ c.in_ok-passed.was))).0)

pub copy_in-used-requires : goal.copy_in-used-requires
copy_in-used-requires c =
    let long : length c.open_bytes.result ≡ 12 = ap length c.open_bytes.ensures ∙ length_open _ in
    omega (arith, (open_facts _ _ (sym c.judge_open.ensures ∙ passed-fine _ _ (sym c.passed.ensures ∙ c.in_ok-passed.was))).1)

pub returns : goal.returns
unfolding open_gives open_leaves
returns c =
    let e = sym c.judge_open.ensures ∙ passed-fine _ _ (sym c.passed.ensures ∙ c.in_ok-passed.was) in
    let long : length c.open_bytes.result ≡ 12 = ap length c.open_bytes.ensures ∙ length_open _ in
    record {
      gives = gives-fine _ _ e (ap (λ (u : ℕ). record { used = u; closed = false }) (omega arith));
      leaves = leaves-fine _ _ _ e (c.copy_in-used.ensures.put ∙ ap (λ (x : List ℕ). splice c.args.buf.now 0 x) c.open_bytes.ensures);
    }
