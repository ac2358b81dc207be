-- `weekly_of` meets its contract: its fields are what its callees give.
use Rattle.records.specs.Fields.{weekly_of}
use Rattle.records.proofs.fields.weekly_of.Goals as goal

pub returns : goal.returns
unfolding weekly_of
returns c = cc
