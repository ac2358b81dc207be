-- `judge_body` meets its contract: the lengths one by one, then fields, then texts.
use Rattle.std.proofs.Common.{arith, refl, true, ◌≡◌}
use Rattle.std.proofs.lemmas.Grind.{common_steps}
use Rattle.prelude.specs.Choice.{if_lt, if_b}
use Rattle.prelude.proofs.Laws.Choice.{b_yes, if_by_false}
use Rattle.records.proofs.Laws.Judged.{fixed_range}
use Rattle.records.specs.Bodies.{judge_body, lengths_ok, lengths_fit, texts_ok}
use Rattle.records.proofs.bodies.judge_body.Goals as goal

pub returns-then-p-fixed : goal.returns-then-p-fixed
unfolding judge_body lengths_ok lengths_fit if_lt if_b
returns-then-p-fixed c = grind (arith, common_steps)

pub overflow_sub-fixed : goal.overflow_sub-fixed
overflow_sub-fixed c = omega (arith, fixed_range c.args.t)

pub bounds-p-fixed : goal.bounds-p-fixed
bounds-p-fixed c = omega (arith, fixed_range c.args.t)

pub overflow_sub-fixed-2 : goal.overflow_sub-fixed-2
overflow_sub-fixed-2 c = omega (arith, fixed_range c.args.t)

pub word_in-requires : goal.word_in-requires
word_in-requires c = omega (arith, fixed_range c.args.t)

pub returns-then-text-gt-MOST_TEXT : goal.returns-then-text-gt-MOST_TEXT
unfolding judge_body lengths_ok lengths_fit if_lt if_b
returns-then-text-gt-MOST_TEXT c = grind (arith, common_steps)

pub returns-then-not-fields_ok : goal.returns-then-not-fields_ok
unfolding judge_body lengths_ok lengths_fit if_lt
returns-then-not-fields_ok c =
    b_yes _ _ (let fit : lengths_ok c.args.t c.args.p.now ≡ true = grind (arith, common_steps) in fit)
    (if_by_false _ _ _ c.fields_ok.ensures c.if-not-fields_ok.true refl)

pub returns-then-not-texts_ok : goal.returns-then-not-texts_ok
unfolding judge_body lengths_ok lengths_fit texts_ok if_lt if_b
returns-then-not-texts_ok c = grind (arith, common_steps)

pub returns : goal.returns
unfolding judge_body lengths_ok lengths_fit texts_ok if_lt if_b
returns c = grind (arith, common_steps)
