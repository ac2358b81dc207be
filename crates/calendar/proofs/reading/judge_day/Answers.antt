-- `judge_day` meets its contract: the block, then its list.
use Rattle.std.proofs.Common.{Err, ap, arith, sym, ◌∙◌}
use Rattle.calendar.proofs.Laws.Reader.{block-facts, day-block, day-list}
use Rattle.calendar.proofs.reading.judge_day.Goals as goal

pub returns-then-not-block_ok : goal.returns-then-not-block_ok
returns-then-not-block_ok c = ap Err c.at.ensures ∙ sym (day-block _ _ (sym c.block_ok.ensures ∙ c.if-not-block_ok.true))

pub span_of-requires-clause-block_at : goal.span_of-requires-clause-block_at
span_of-requires-clause-block_at c = block-facts _ _ (sym c.block_ok.ensures ∙ c.if-not-block_ok.false)

pub judge_list-requires : goal.judge_list-requires
judge_list-requires c = let b = block-facts _ _ (sym c.block_ok.ensures ∙ c.if-not-block_ok.false) in omega arith

pub returns : goal.returns
returns c = c.judge_list.ensures ∙ rw (c.span_of.ensures.0, c.span_of.ensures.1) (sym (day-list _ _ (sym c.block_ok.ensures ∙ c.if-not-block_ok.false)))
