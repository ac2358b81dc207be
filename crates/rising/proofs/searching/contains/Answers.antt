-- `contains` meets its contract by what the library's search finds.
use Rattle.std.proofs.Common.{◌∙◌}
use Rattle.rising.proofs.Laws.Rising.{search-contains}
use Rattle.rising.proofs.searching.contains.Goals as goal

pub returns : goal.returns
returns c = c.is_ok.ensures.value ∙ search-contains _ _ _ c.requires c.binary_search.ensures.position
