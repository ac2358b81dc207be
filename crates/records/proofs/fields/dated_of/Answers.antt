-- `dated_of` meets its contract: its fields are what its callees give.
use Rattle.records.specs.Fields.{dated_of}
use Rattle.records.proofs.fields.dated_of.Goals as goal

pub returns : goal.returns
unfolding dated_of
returns c = cc
