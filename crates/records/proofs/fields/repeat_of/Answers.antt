-- `repeat_of` meets its contract: its fields are what its callees give.
use Rattle.records.specs.Fields.{repeat_of}
use Rattle.records.proofs.fields.repeat_of.Goals as goal

pub returns : goal.returns
unfolding repeat_of
returns c = cc
