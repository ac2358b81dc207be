-- `measure`: so much is counted, and so much the records ahead add that fall on the day.
use Rattle.book.proofs.Laws.Books.{Cursor}
use Rattle.pages.specs.Pages.{falls_on}
use Rattle.printing.proofs.Laws.Sizes.{Counted}
use Rattle.printing.proofs.measures.measure.Given as goal

abbrev pub invariant-loop : goal.invariant-loop
invariant-loop l = Cursor l.file l.counter l.at × Counted l.file l.f (falls_on l.c l.f) l.counter l.lines l.bytes
