-- `print_with` meets its contract: the page is what its ordered codes print, by `page_of-codes`.
use Rattle.std.proofs.Common.{map, take, ◌≡◌, ℕ, List}
use Rattle.falls.specs.declared.types.ShortMonth.{ShortMonth}
use Rattle.pages.specs.Codes.{code}
use Rattle.pages.specs.Pages.{page_on, falls_on}
use Rattle.pages.specs.Invariants.{ReadyBook}
use Rattle.pages.specs.declared.types.Ready.{Ready}
use Rattle.printing.specs.Printed.{page_text}
use Rattle.printing.specs.Coded.{coded_text}
use Rattle.printing.proofs.Laws.Printed.{page_of-codes, page_codes_of}
use Rattle.printing.proofs.Laws.Sizes.{page_most}
use Rattle.printing.specs.Answers.{print_in, print_leaves}
use Rattle.printing.proofs.calls.print_with.Goals as goal

page : (c : ShortMonth) (f : List ℕ) (a : Ready) (n : ℕ) (codes : List ℕ) → ReadyBook f a → take n codes ≡ map code (page_on c a.facts f) → page_text (falls_on c) f a.facts ≡ coded_text f a.facts (take n codes)
page c f a n codes r e = page_of-codes (falls_on c) f a n codes r e

pub invariant_of-coded : goal.invariant_of-coded
invariant_of-coded c =
    let e = page c.args.c c.args.file.now c.args.a c.page_codes-n.result c.page_codes-n.new.codes c.requires.ready_book c.page_codes-n.ensures.codes_after in
    record {
      short = rw e at (page_most (falls_on c.args.c) c.args.file.now c.args.a c.requires.ready_book);
      of = page_codes_of (falls_on c.args.c c.args.a.facts) c.args.file.now c.args.a c.page_codes-n.result c.page_codes-n.new.codes c.requires.ready_book c.page_codes-n.ensures.codes_after;
    }

pub returns : goal.returns
unfolding print_in print_leaves
returns c =
    let e = page c.args.c c.args.file.now c.args.a c.page_codes-n.result c.page_codes-n.new.codes c.requires.ready_book c.page_codes-n.ensures.codes_after in
    record { gives = rw e c.print.ensures.gives; leaves = rw e c.print.ensures.leaves }
