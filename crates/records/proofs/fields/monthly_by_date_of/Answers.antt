-- `monthly_by_date_of` meets its contract: its fields are what its callees give.
use Rattle.records.specs.Fields.{monthly_by_date_of}
use Rattle.records.proofs.fields.monthly_by_date_of.Goals as goal

pub returns : goal.returns
unfolding monthly_by_date_of
returns c = cc
