-- `moved_to` meets its contract: whether the date is real, and its day, by what its callee answers.
use Rattle.std.proofs.Common.{ap, arith, refl, sym, ◌∙◌, ◌<◌, ◌≤◌}
use Rattle.std.proofs.lemmas.Bool.Decides.{nat_tests}
use Rattle.prelude.proofs.Laws.Choice.{b_yes, b_no, lt_yes, lt_no}
use Rattle.days.specs.Facts.{facts_of}
use Rattle.days.proofs.Laws.Answers.{day_given, day_refused}
use Rattle.days.proofs.Laws.Dates.{facts_valid}
use Rattle.day_steps.specs.Moves.{moved_to}
use Rattle.day_steps.proofs.moving.moved_to.Goals as goal

pub returns-in_default : goal.returns-in_default
unfolding moved_to
returns-in_default c = b_no _ _ (day_refused _ (sym c.day_of_date.ensures ∙ c.in_default.is)) refl

pub facts_at-requires : goal.facts_at-requires
facts_at-requires c =
    let given = day_given (sym c.day_of_date.ensures ∙ c.in-Ok.is) in
    record { real_date = given.0; d_value = given.1 }

pub returns-then-lt : goal.returns-then-lt
unfolding moved_to
returns-then-lt c =
    let given = day_given (sym c.day_of_date.ensures ∙ c.in-Ok.is) in
    let ahead : c.args.f.day.0 < c.in-Ok.n.0 = grind (arith, nat_tests) in
    b_yes _ _ (facts_valid given.0) (lt_yes _ _ _ (omega arith) (c.facts_at.ensures ∙ ap facts_of (sym given.1)))

pub returns-else-lt : goal.returns-else-lt
unfolding moved_to
returns-else-lt c =
    let given = day_given (sym c.day_of_date.ensures ∙ c.in-Ok.is) in
    let behind : c.in-Ok.n.0 ≤ c.args.f.day.0 = grind (arith, nat_tests) in
    b_yes _ _ (facts_valid given.0) (lt_no _ _ _ (omega arith) refl)
