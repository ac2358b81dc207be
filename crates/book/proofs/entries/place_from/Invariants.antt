-- `place_from` meets its contract: a cursor walks the records, and stands at record i after i - n steps.
use Rattle.book.proofs.Laws.Books.{Cursor}
use Rattle.book.proofs.entries.place_from.Given as goal

abbrev pub invariant-loop : goal.invariant-loop
invariant-loop l = Cursor l.file l.counter l.at
