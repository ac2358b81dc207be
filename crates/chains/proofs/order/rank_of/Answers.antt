-- Each arm is a choice of `rank`.
use Rattle.std.proofs.Common.{arith, refl, sym}
use Rattle.prelude.proofs.Laws.Choice.{lt_yes, lt_no, eq_yes, eq_no}
use Rattle.chains.specs.Ranks.{rank}
use Rattle.chains.proofs.order.rank_of.Goals as goal

pub returns-in-0 : goal.returns-in-0
unfolding rank
returns-in-0 c = (eq_no _ _ _ (λ e. omega arith) (eq_yes _ _ _ (omega arith) refl), omega arith)

pub returns-in-1 : goal.returns-in-1
unfolding rank
returns-in-1 c = (eq_yes _ _ _ (omega arith) (lt_no _ _ _ (omega arith) refl), omega arith)

pub returns-in-2 : goal.returns-in-2
unfolding rank
returns-in-2 c = (eq_no _ _ _ (λ e. omega arith) (eq_no _ _ _ (λ e. omega arith) (eq_yes _ _ _ (omega arith) refl)), omega arith)

pub returns-in_default : goal.returns-in_default
unfolding rank
returns-in_default c = sym (eq_yes _ _ _ (omega arith) (lt_yes _ _ _ (omega arith) refl))

pub returns-in_default-2 : goal.returns-in_default-2
unfolding rank
returns-in_default-2 c = sym (eq_no _ _ _ (λ e. omega arith) (eq_no _ _ _ (λ e. omega arith) (eq_no _ _ _ (λ e. omega arith) refl)))
