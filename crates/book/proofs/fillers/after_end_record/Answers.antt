-- `after_end_record` meets its contract: nothing there, more than 127 bytes, or what is said of each.
use Rattle.std.proofs.Common.{arith, sym}
use Rattle.prelude.proofs.Laws.Choice.{lt_yes, lt_no}
use Rattle.book.specs.Fillers.{after_end_record}
use Rattle.book.proofs.Laws.Fillers.{nothing_after}
use Rattle.book.proofs.fillers.after_end_record.Goals as goal

pub returns-then-file-e : goal.returns-then-file-e
returns-then-file-e c = sym (nothing_after _ _ (omega arith))

pub returns-then-file-e-gt-MOST_FILLERS : goal.returns-then-file-e-gt-MOST_FILLERS
unfolding after_end_record
returns-then-file-e-gt-MOST_FILLERS c = lt_yes _ _ _ (omega arith) (cc)

pub returns : goal.returns
unfolding after_end_record
returns c = lt_no _ _ _ (omega arith) c.fillers_from.ensures
