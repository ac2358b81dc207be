-- `validate` meets its contract: the book decides, then the day layer, by `validated-facts`.
use Rattle.std.proofs.Common.{ap, sym, ◌∙◌}
use Rattle.std.proofs.lemmas.Result.{err_from_is_err_and}
use Rattle.pages.specs.Answers.{validated_day, validated}
use Rattle.pages.proofs.Laws.Pages.{with_facts, validated-facts}
use Rattle.pages.proofs.validating.validate.Goals as goal

pub returns-in_err-facts-in-Ok : goal.returns-in_err-facts-in-Ok
unfolding validated with_facts
returns-in_err-facts-in-Ok c =
    let p = err_from_is_err_and c.from_residual.result c.from_residual.ensures.1 in
    rw (p.1, p.2) (ap (with_facts c.in-Ok.book.records) (sym c.in_err-facts-in-Ok.was ∙ c.facts_of_day.ensures) ∙ validated-facts _ _ ∙ ap (validated_day _) (sym c.in-Ok.is ∙ c.read_book.ensures))

pub returns-in_ok-facts-in-Ok : goal.returns-in_ok-facts-in-Ok
unfolding validated with_facts
returns-in_ok-facts-in-Ok c = ap (with_facts _) (sym c.in_ok-facts-in-Ok.was ∙ c.facts_of_day.ensures) ∙ validated-facts _ _ ∙ ap (validated_day _) (sym c.in-Ok.is ∙ c.read_book.ensures)

pub returns-in-Err : goal.returns-in-Err
unfolding validated validated_day
returns-in-Err c = ap (validated_day _) (sym c.in-Err.is ∙ c.read_book.ensures)
