-- `to_do_of` meets its contract: its fields are what its callees give.
use Rattle.records.specs.Fields.{to_do_of}
use Rattle.records.proofs.fields.to_do_of.Goals as goal

pub returns : goal.returns
unfolding to_do_of
returns c = cc
