-- `apptbook_why` meets its contract: what the layer below gives, as it crosses, and what its number says, by `explained_out`.
use Rattle.std.proofs.Common.{ap, ◌∙◌}
use Rattle.falls.specs.declared.types.ShortMonth.{ShortMonth}
use Rattle.marshal.specs.PageAnswers.{day_of}
use Rattle.marshal.specs.ReasonAnswers.{reason_out}
use Rattle.marshal.proofs.Laws.ReasonAnswers.{explained_out}
use Rattle.reasons.specs.Answers.{record_why}
use Rattle.cabi.proofs.reason_calls.apptbook_why.Goals as goal

pub returns : goal.returns
returns c =
    let choice = ap (λ (z : ShortMonth). record_why c.args.file.now z (day_of c.args.day) c.args.«record») c.choice_of-c.ensures in
    let whole = explained_out _ _ _ _ (c.from.ensures ∙ ap reason_out (c.why.ensures.gives ∙ choice)) in record { gives = whole.0; shown = whole.1 }
