-- `monthly_by_position_ok` meets its contract: each return is the choice that its tests make.
use Rattle.std.proofs.Common.{arith, ◌≤◌, ◌∙◌, true, ◌≡◌}
use Rattle.std.proofs.lemmas.Grind.{common_steps}
use Rattle.std.specs.Range.{range_inclusive_start}
use Rattle.prelude.specs.Choice.{if_lt, if_b}
use Rattle.prelude.proofs.Laws.Choice.{b_yes, is_ge}
use Rattle.records.specs.Ranges.{monthly_by_position_ok, between}
use Rattle.records.proofs.ranges.monthly_by_position_ok.Goals as goal

pub returns-then-contains-2 : goal.returns-then-contains-2
unfolding monthly_by_position_ok between
returns-then-contains-2 c =
    let above : range_inclusive_start c.new.result ≤ c.args.m.week = grind arith in
    let first : 1 ≤ c.args.m.week = omega (arith, above, c.new.ensures.start) in
    let last : c.args.m.week ≤ 5 = grind arith in
    b_yes _ _ (is_ge first _ _ ∙ is_ge last _ _)
    (b_yes _ _ (let day : between 1 c.args.m.weekday 7 ≡ true = is_ge (grind arith) _ _ ∙ is_ge (grind arith) _ _ in day) c.repeat_ok.ensures)

pub returns-else-contains-2 : goal.returns-else-contains-2
unfolding monthly_by_position_ok between if_lt if_b
returns-else-contains-2 c = grind (arith, common_steps)
