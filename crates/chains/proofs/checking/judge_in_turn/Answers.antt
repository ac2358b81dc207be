-- An iteration is one step of `in_turn`, whatever is judged.
use Rattle.std.proofs.Common.{arith, sym, ◌∙◌}
use Rattle.std.proofs.lemmas.Result.{err_from_is_err_and}
use Rattle.prelude.proofs.Laws.Verdicts.{in-turn-fine, in-turn-refused, in-turn-past}
use Rattle.chains.proofs.checking.judge_in_turn.Goals as goal

pub returns-in_err-judge : goal.returns-in_err-judge
returns-in_err-judge g c judged h =
    let p = err_from_is_err_and c.from_residual.result c.from_residual.ensures.1 in
    rw (p.1, p.2) (sym (c.loop-i.invariant judged h ∙ in-turn-refused judged _ _ (omega arith) (h _ _ (omega arith) c.judge.ensures) c.in_err-judge.was))

pub loop-i-preserved : goal.loop-i-preserved
loop-i-preserved g c judged h = c.loop-i.invariant judged h ∙ in-turn-fine judged _ _ (omega arith) (h _ _ (omega arith) c.judge.ensures) c.in_ok-judge.was

pub returns : goal.returns
returns g c judged h = sym (c.loop-i.invariant judged h ∙ in-turn-past _ _ _ (omega arith))
