-- `settings_of` meets its contract: it is what its callees give.
use Rattle.book.specs.Settings.{settings_of}
use Rattle.book.proofs.settings.settings_of.Goals as goal

pub returns : goal.returns
unfolding settings_of
returns c = cc
