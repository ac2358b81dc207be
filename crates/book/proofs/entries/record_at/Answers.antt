-- `record_at` meets its contract: the book's own answer decides; below the count the record at its place, else no such number.
use Rattle.std.proofs.Common.{Ok, ap, arith, refl, sym, ◌∙◌}
use Rattle.prelude.proofs.Laws.Choice.{lt_yes, lt_no}
use Rattle.prelude.proofs.Laws.Results.{err_passed}
use Rattle.book.specs.Books.{entry_at, record_from, record_answer}
use Rattle.book.specs.Invariants.{AcceptedBook}
use Rattle.book.proofs.Laws.Books.{book_accepted}
use Rattle.book.proofs.Laws.Entries.{record_there}
use Rattle.book.proofs.entries.record_at.Goals as goal

pub returns-in_err-book : goal.returns-in_err-book
unfolding record_answer record_from
returns-in_err-book c = err_passed c.from_residual.ensures.1 ∙ ap (record_from _ _) (sym (sym c.read_book.ensures ∙ c.in_err-book.was))

pub returns-then-k-book : goal.returns-then-k-book
unfolding record_answer record_from
returns-then-k-book c = lt_no _ _ _ (omega arith) refl ∙ ap (record_from _ _) (sym (sym c.read_book.ensures ∙ c.in_ok-book.was))

pub place_of-at-requires : goal.place_of-at-requires
place_of-at-requires c =
    let b : AcceptedBook c.args.file.now c.in_ok-book.book = book_accepted _ (sym c.read_book.ensures ∙ c.in_ok-book.was) in
    record { first_record_in_bounds = b.long; k_in_bounds = omega (arith, b.count) }

pub invariant_of-entry : goal.invariant_of-entry
invariant_of-entry c =
    let b : AcceptedBook c.args.file.now c.in_ok-book.book = book_accepted _ (sym c.read_book.ensures ∙ c.in_ok-book.was) in
    record { there = rw c.place_of-at.ensures.0 (record_there _ b.long _ (omega (arith, b.count))) }

pub returns : goal.returns
unfolding record_answer record_from
returns c =
    lt_yes _ _ _ (omega arith) (ap Ok (c.entry.ensures ∙ ap (entry_at _) c.place_of-at.ensures.0))
    ∙ ap (record_from _ _) (sym (sym c.read_book.ensures ∙ c.in_ok-book.was))
