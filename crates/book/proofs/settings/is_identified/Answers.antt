-- `is_identified` meets its contract: each return is the choice that its tests make.
use Rattle.std.proofs.Common.{arith}
use Rattle.std.proofs.lemmas.Grind.{common_steps}
use Rattle.prelude.specs.Choice.{if_eq}
use Rattle.book.specs.Settings.{book_identified, book_mark}
use Rattle.book.proofs.settings.is_identified.Goals as goal

pub returns : goal.returns
unfolding book_identified book_mark if_eq
returns c = grind (arith, common_steps)
