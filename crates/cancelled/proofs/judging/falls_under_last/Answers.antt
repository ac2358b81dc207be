-- `falls_under_last` meets its contract: the day layer says whether there is such a day, then the rule decides.
use Rattle.std.proofs.Common.{false, refl, sym, ◌∙◌, ◌≡◌}
use Rattle.prelude.proofs.Laws.Choice.{is_ge, lt_elim, constructors_differ}
use Rattle.days.specs.Days.{last_day}
use Rattle.days.proofs.Laws.Answers.{facts-given, facts_in_lem}
use Rattle.cancelled.proofs.judging.falls_under_last.Goals as goal

pub returns-in-Ok : goal.returns-in-Ok
returns-in-Ok c =
    let g = facts-given (sym c.facts_of_day.ensures ∙ c.in-Ok.is) in
    c.falls_on.ensures ∙ rw (sym g.1) (sym (is_ge g.0 _ _))

pub returns-in-Err : goal.returns-in-Err
returns-in-Err c =
    let e = sym c.facts_of_day.ensures ∙ c.in-Err.is in
    lt_elim (λ z. false ≡ z) last_day _ _ _ (λ _. refl) (λ h. absurd (let q = sym (facts_in_lem _ h) ∙ e in constructors_differ cc))
