-- `descriptor_at` meets its contract: the file's own refusal, or below the count the descriptor at its place, else no such number.
use Rattle.std.proofs.Common.{ap, arith, refl, sym, ◌∙◌}
use Rattle.prelude.proofs.Laws.Choice.{lt_yes, lt_no}
use Rattle.prelude.proofs.Laws.Results.{err_passed}
use Rattle.calendar.specs.Shown.{descriptor_at, descriptor_from, descriptor_answer}
use Rattle.calendar.proofs.Laws.Reader.{calendar_facts}
use Rattle.calendar.proofs.shown.descriptor_at.Goals as goal

pub returns-in_err-n : goal.returns-in_err-n
unfolding descriptor_answer descriptor_from
returns-in_err-n c = err_passed c.from_residual.ensures.1 ∙ sym (ap (descriptor_from _ _) (sym c.read_calendar.ensures ∙ c.in_err-n.was))

pub returns-then-n-k : goal.returns-then-n-k
unfolding descriptor_answer descriptor_from
returns-then-n-k c = lt_no _ _ _ (omega arith) refl ∙ sym (ap (descriptor_from _ _) (sym c.read_calendar.ensures ∙ c.in_ok-n.was))

pub overflow_mul-p : goal.overflow_mul-p
overflow_mul-p c = let a = calendar_facts _ (sym c.read_calendar.ensures ∙ c.in_ok-n.was) in omega arith

pub overflow_add-p : goal.overflow_add-p
overflow_add-p c = let a = calendar_facts _ (sym c.read_calendar.ensures ∙ c.in_ok-n.was) in omega arith

pub overflow_add-p-2 : goal.overflow_add-p-2
overflow_add-p-2 c = let a = calendar_facts _ (sym c.read_calendar.ensures ∙ c.in_ok-n.was) in omega arith

pub word_in-requires : goal.word_in-requires
word_in-requires c = let a = calendar_facts _ (sym c.read_calendar.ensures ∙ c.in_ok-n.was) in omega arith

pub word_in-offset-requires : goal.word_in-offset-requires
word_in-offset-requires c = let a = calendar_facts _ (sym c.read_calendar.ensures ∙ c.in_ok-n.was) in omega arith

pub returns : goal.returns
unfolding descriptor_answer descriptor_from descriptor_at
returns c =
    lt_yes _ _ _ (omega arith) (rw (c.word_in.ensures, c.word_in-offset.ensures))
    ∙ sym (ap (descriptor_from _ _) (sym c.read_calendar.ensures ∙ c.in_ok-n.was))
