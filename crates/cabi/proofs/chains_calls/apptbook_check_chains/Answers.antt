-- `apptbook_check_chains` meets its contract: what the layer below gives, as it crosses.
use Rattle.std.proofs.Common.{ap, ◌∙◌}
use Rattle.marshal.specs.CountAnswers.{count_out}
use Rattle.marshal.proofs.Laws.ChainAnswers.{promised_out}
use Rattle.cabi.proofs.chains_calls.apptbook_check_chains.Goals as goal

pub returns : goal.returns
returns c = let whole = promised_out _ _ _ _ _ (c.from.ensures ∙ ap count_out c.check_chains.ensures.answer) in record { gives = whole.0; shown = whole.1 }
