-- `note_ok` meets its contract: a short note and one that is too long by their laws, any other by its lines.
use Rattle.std.proofs.Common.{arith, le-leb, sym, ◌∙◌}
use Rattle.std.proofs.lemmas.Bool.{lt-leb}
use Rattle.texts.proofs.Laws.Rules.{note_short, note_long}
use Rattle.texts.proofs.rules.note_ok.Goals as goal

pub returns-then-s-le-MOST_LINES : goal.returns-then-s-le-MOST_LINES
returns-then-s-le-MOST_LINES c = le-leb _ _ (omega arith) ∙ sym (note_short _ (omega arith))

pub returns-else-s-le-MOST_NOTE : goal.returns-else-s-le-MOST_NOTE
returns-else-s-le-MOST_NOTE c = lt-leb _ _ (omega arith) ∙ sym (note_long _ (omega arith))
