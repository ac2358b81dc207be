-- `text_at` meets its contract: the stretch of the record there, or nothing.
use Rattle.std.proofs.Common.{ap, sym, ◌∙◌}
use Rattle.book.specs.Books.{record_text_in}
use Rattle.book.proofs.entries.text_at.Goals as goal

pub returns-in_default : goal.returns-in_default
unfolding record_text_in
returns-in_default c = ap (record_text_in _) (sym (sym c.record_at.ensures ∙ c.in_default.is))

pub returns : goal.returns
unfolding record_text_in
returns c = c.of.ensures ∙ ap (record_text_in _) (sym (sym c.record_at.ensures ∙ c.in-Ok.is))
