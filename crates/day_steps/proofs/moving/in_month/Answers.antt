-- `in_month` meets its contract: in the same month only the day and the weekday change, by `on_by-facts`.
use Rattle.std.proofs.Common.{arith}
use Rattle.day_steps.proofs.Laws.Moves.{facts_at_known, on_by-facts}
use Rattle.day_steps.proofs.moving.in_month.Goals as goal

pub overflow_add-result-3 : goal.overflow_add-result-3
overflow_add-result-3 c = let k = facts_at_known c.requires.facts_at (omega arith) in omega arith

pub overflow_add-result-4 : goal.overflow_add-result-4
overflow_add-result-4 c = let k = facts_at_known c.requires.facts_at (omega arith) in omega arith

pub returns : goal.returns
returns c = on_by-facts _ c.requires.facts_at.facts c.requires.k_bound
