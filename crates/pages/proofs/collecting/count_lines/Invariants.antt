-- `count_lines` meets its contract: so many are counted, and so many of the records ahead fall on the day.
use Rattle.std.proofs.Common.{length, ◌+◌, ◌≡◌, ◌≤◌}
use Rattle.sorting.specs.Keep.{keep}
use Rattle.book.proofs.Laws.Books.{Cursor}
use Rattle.pages.specs.Pages.{numbered, falls_on}
use Rattle.pages.proofs.Laws.Pages.{numbered_at}
use Rattle.pages.proofs.collecting.count_lines.Given as goal

abbrev pub invariant-loop : goal.invariant-loop
invariant-loop l =
    record {
      place : Cursor l.file l.counter l.at;
      most : l.count ≤ l.counter;
      counted : length (keep (falls_on l.c l.f) (numbered l.file)) ≡ l.count + length (keep (falls_on l.c l.f) (numbered_at l.file l.counter));
    }
