-- `on_to` meets its contract: the place that it gives is past days before the date, since one of them was looked at and dates rise.
use Rattle.std.proofs.Common.{◌-◌, ◌≡◌, length, sym, ◌∙◌, arith}
use Rattle.std.proofs.lemmas.Bool.{eqb-false}
use Rattle.occurrences.proofs.Laws.After.{ahead-at, ahead-all}
use Rattle.occurrences.proofs.hits.on_to.Goals as goal

pub returns-then-date_in-date : goal.returns-then-date_in-date
returns-then-date_in-date c =
    let some : length c.args.days.now ≡ 0 → ⊥ = eqb-false _ _ (sym c.is_empty.ensures ∙ c.if-is_empty.false) in
    ahead-all c.requires (length c.args.days.now - 1) (omega arith) (omega arith)

pub returns-then-date_in-date-2 : goal.returns-then-date_in-date-2
returns-then-date_in-date-2 c =
    let some : length c.args.days.now ≡ 0 → ⊥ = eqb-false _ _ (sym c.is_empty.ensures ∙ c.if-is_empty.false) in
    ahead-at c.requires _ (omega arith) (omega arith)
