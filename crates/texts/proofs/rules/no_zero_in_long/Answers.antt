-- `no_zero_in_long` meets its contract: the library finds no zero.
use Rattle.std.proofs.Common.{ap, not, ◌∙◌}
use Rattle.texts.proofs.Laws.Notes.{no_zero-any}
use Rattle.texts.proofs.rules.no_zero_in_long.Goals as goal

pub returns : goal.returns
returns c = ap not c.contains.ensures.value ∙ no_zero-any c.args.s.now
