-- `may_cancel` meets its contract: the type says whether the record repeats, by `repeated_type_lem`, then the day is asked.
use Rattle.std.proofs.Common.{ap, sym, ◌∙◌}
use Rattle.book.specs.Books.{entry_at}
use Rattle.cancelled.specs.Judging.{repeated_type}
use Rattle.cancelled.proofs.Laws.Judging.{repeated_type_lem, may_cancel-repeated, may_cancel_not}
use Rattle.cancelled.proofs.judging.may_cancel.Goals as goal

pub returns-then-repeats : goal.returns-then-repeats
unfolding entry_at
returns-then-repeats c = c.falls_under_last.ensures ∙ rw (c.body.ensures, c.kind-t.ensures) (sym (may_cancel-repeated _ _ (repeated_type_lem _ _ ∙ sym (c.repeats.ensures ∙ ap repeated_type c.kind-t.ensures) ∙ c.if-repeats.true)))

pub returns-else-repeats : goal.returns-else-repeats
unfolding entry_at
returns-else-repeats c = c.if-repeats.false ∙ sym (may_cancel_not _ _ (repeated_type_lem _ _ ∙ sym (c.repeats.ensures ∙ ap repeated_type c.kind-t.ensures) ∙ c.if-repeats.false))
