-- `fixed_size` meets its contract: each arm is its kinds' number.
use mathlib.Core.Logic.{inl, inr}
use Rattle.prelude.specs.Choice.{if_eq}
use Rattle.records.specs.Fields.{fixed_of}
use Rattle.records.specs.Encoding.{type_of}
use Rattle.writer.proofs.deciding.fixed_size.Goals as goal

pub returns-in-Dated-clause-value : goal.returns-in-Dated-clause-value
unfolding fixed_of type_of if_eq
returns-in-Dated-clause-value c = rw c.in-Dated.is

pub returns-in-Weekly-clause-value : goal.returns-in-Weekly-clause-value
unfolding fixed_of type_of if_eq
returns-in-Weekly-clause-value c = elim c.in-Weekly.is [ inl p ↦ rw p.1 | inr q ↦ rw q.1 ]

pub returns-in-MonthlyByPosition-clause-value : goal.returns-in-MonthlyByPosition-clause-value
unfolding fixed_of type_of if_eq
returns-in-MonthlyByPosition-clause-value c = elim c.in-MonthlyByPosition.is [ inl p ↦ rw p.1 | inr q ↦ rw q.1 ]

pub returns-in-ToDo-clause-value : goal.returns-in-ToDo-clause-value
unfolding fixed_of type_of if_eq
returns-in-ToDo-clause-value c = rw c.in-ToDo.is
