-- `collect` meets its contract: the codes so far, and those of the records ahead that fall on the day, are all there are.
use Rattle.std.proofs.Common.{drop, length, map, take, ◌++◌, ◌≡◌, ◌≤◌}
use Rattle.sorting.specs.Keep.{keep}
use Rattle.book.proofs.Laws.Books.{Cursor}
use Rattle.pages.specs.Pages.{numbered, falls_on}
use Rattle.pages.specs.Codes.{code}
use Rattle.pages.proofs.Laws.Pages.{numbered_at}
use Rattle.pages.proofs.collecting.collect.Given as goal

abbrev pub invariant-loop-number : goal.invariant-loop-number
invariant-loop-number l =
    record {
      place : Cursor l.file l.number l.at;
      most : l.count ≤ l.number;
      room : length l.codes ≡ length l.initial.codes;
      collected : map code (keep (falls_on l.c l.f) (numbered l.file)) ≡ take l.count l.codes ++ map code (keep (falls_on l.c l.f) (numbered_at l.file l.number));
      behind : drop l.count l.codes ≡ drop l.count l.initial.codes;
    }
