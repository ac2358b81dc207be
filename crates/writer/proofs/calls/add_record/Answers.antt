-- `add_record` meets its contract: the judgement decides both the answer and the buffer.
use Rattle.std.proofs.Common.{Result, Ok, List, ap, arith, false, length, sym, ℕ, ◌∙◌, ◌≡◌, ◌+◌}
use Rattle.prelude.specs.declared.refusals.Fault.{Fault}
use Rattle.records.specs.Encoding.{encode}
use Rattle.records.specs.declared.types.Record.{Record}
use Rattle.records.proofs.Laws.Bodies.{note_short}
use Rattle.prelude.proofs.Laws.Results.{err_passed}
use Rattle.writer.specs.Writing.{passed, add_refusal, add_gives, add_leaves}
use Rattle.writer.specs.Runs.{Item, Fine}
use Rattle.writer.specs.declared.types.Writer.{Writer}
use Rattle.writer.proofs.Laws.Calls.{Room, add_facts, gives-fine, leaves-fine, passed-fine, passed-gives, passed-leaves}
use Rattle.writer.proofs.calls.add_record.Goals as goal

-- what a fine judgement says of what is added
abbrev item : Record → List ℕ → List ℕ → Item
item r text note = record { kind = r; text = text; note = note }

facts :
    (w : Writer) (size : ℕ) (r : Record) (text note : List ℕ) {judged : Result (Unit {0}) Fault}
    → judged ≡ add_refusal w size r text note → judged ≡ Ok tt → Fine (item r text note) × Room size (w.used + length (encode r text note))
facts w size r text note e fine = add_facts w size (item r text note) (sym e ∙ fine)

pub returns-in_err-passed : goal.returns-in_err-passed
unfolding add_gives add_leaves
returns-in_err-passed c =
    let h = sym (ap (λ j. passed j c.args.w) c.judge_add.ensures) ∙ (sym c.passed.ensures ∙ c.in_err-passed.was) in
    record { gives = passed-gives _ _ _ h (err_passed c.from_residual.ensures.1); leaves = passed-leaves _ _ _ _ _ h }

pub invariant_of-put_record : goal.invariant_of-put_record
invariant_of-put_record c =
    let f = facts _ _ _ _ _ c.judge_add.ensures (passed-fine _ _ (sym c.passed.ensures ∙ c.in_ok-passed.was)) in record { lengths = record { text-most = f.0.short; note-most = note_short _ f.0.ruled } }

pub put_record-used-requires : goal.put_record-used-requires
put_record-used-requires c =
    let f = facts _ _ _ _ _ c.judge_add.ensures (passed-fine _ _ (sym c.passed.ensures ∙ c.in_ok-passed.was)) in record { r_value = f.0.ranged; inside = omega (arith, f.1.buffer) }

pub returns : goal.returns
unfolding add_gives add_leaves
returns c =
    let e = sym c.judge_add.ensures ∙ passed-fine _ _ (sym c.passed.ensures ∙ c.in_ok-passed.was) in
    record {
      gives = gives-fine _ _ e (ap (λ (u : ℕ). record { used = u; closed = false }) c.put_record-used.ensures.next);
      leaves = leaves-fine _ _ _ e c.put_record-used.ensures.put;
    }
