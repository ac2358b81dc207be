-- `yearly_of` meets its contract: its fields are what its callees give.
use Rattle.records.specs.Fields.{yearly_of}
use Rattle.records.proofs.fields.yearly_of.Goals as goal

pub returns : goal.returns
unfolding yearly_of
returns c = cc
