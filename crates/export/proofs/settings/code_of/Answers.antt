-- `code_of` meets its contract: each arm is the choice of its number.
use Rattle.std.proofs.Common.{arith, refl}
use Rattle.export.specs.Export.{code_of}
use Rattle.prelude.proofs.Laws.Choice.{eq_yes, eq_no}
use Rattle.export.proofs.settings.code_of.Goals as goal

pub returns-in-15 : goal.returns-in-15
unfolding code_of
returns-in-15 c = eq_yes _ _ _ (omega arith) refl

pub returns-in-60 : goal.returns-in-60
unfolding code_of
returns-in-60 c = eq_no _ _ _ (omega arith) (eq_yes _ _ _ (omega arith) refl)

pub returns-in_default : goal.returns-in_default
unfolding code_of
returns-in_default c = eq_no _ _ _ (omega arith) (eq_no _ _ _ (omega arith) refl)
