-- `days_later` meets its contract: the day reached and the days left come to the same day; a month's end is stepped over by `facts_next`.
use Rattle.std.proofs.Common.{ap, arith, suc, ℕ, ◌+◌, ◌-◌, ◌≤◌, ◌∙◌, ◌≡◌}
use Rattle.days.specs.Facts.{facts_of, next_facts}
use Rattle.days.proofs.Laws.Facts.{facts_next}
use Rattle.day_steps.proofs.Laws.Moves.{facts_at_day, day_of-facts, facts_at_day_of-month}
use Rattle.day_steps.proofs.moving.days_later.Goals as goal

pub overflow_sub-rest : goal.overflow_sub-rest
overflow_sub-rest c = facts_at_day_of-month c.loop-left.invariant.0 (omega arith)

pub in_month-requires-clause-k_bound : goal.in_month-requires-clause-k_bound
in_month-requires-clause-k_bound c = let h = facts_at_day_of-month c.loop-left.invariant.0 (omega arith) in omega arith

pub in_month-requires-in-loop-left-clause-k_bound : goal.in_month-requires-in-loop-left-clause-k_bound
in_month-requires-in-loop-left-clause-k_bound c = let h = facts_at_day_of-month c.loop-left.invariant.0 (omega arith) in omega arith

pub loop-left-preserved : goal.loop-left-preserved
loop-left-preserved c =
    let h : c.loop-left.g.date.day ≤ c.loop-left.g.length = facts_at_day_of-month c.loop-left.invariant.0 (omega arith) in
    let n : ℕ = c.loop-left.g.day.0 + (c.loop-left.g.length - c.loop-left.g.date.day) in
    let next : c.next_facts-g.result ≡ facts_of (suc n) = c.next_facts-g.ensures ∙ ap next_facts c.in_month-in-loop-left.ensures ∙ facts_next n (omega arith) in
    let d : c.next_facts-g.result.day.0 ≡ suc n = day_of-facts next in
    (facts_at_day _ next (omega arith), omega arith)
