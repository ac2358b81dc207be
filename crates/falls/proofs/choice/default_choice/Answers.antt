-- `default_choice` meets its contract: it is what the definition says.
use Rattle.std.proofs.Common.{refl}
use Rattle.falls.specs.Falls.{default_choice}
use Rattle.falls.proofs.choice.default_choice.Goals as goal

pub returns : goal.returns
unfolding default_choice
returns c = refl
