-- `note_of` meets its contract: the book's own answer decides; below the count the note of the record at its place, else no such number.
use Rattle.std.proofs.Common.{ap, arith, sym, ℕ, ◌∙◌}
use Rattle.prelude.proofs.Laws.Results.{err_passed}
use Rattle.book.specs.Books.{entry_at, record_from, record_answer}
use Rattle.book.specs.Invariants.{AcceptedBook}
use Rattle.book.specs.Lines.{note_from}
use Rattle.book.proofs.Laws.Books.{book_accepted}
use Rattle.book.proofs.Laws.Entries.{record_there}
use Rattle.book.proofs.Laws.Notes.{note_there, note_past}
use Rattle.book.proofs.lines.note_of.Goals as goal

pub returns-in_err-book : goal.returns-in_err-book
unfolding record_answer record_from note_from
returns-in_err-book c = err_passed c.from_residual.ensures.1 ∙ ap note_from (ap (record_from _ _) (sym (sym c.read_book.ensures ∙ c.in_err-book.was)))

pub returns-then-k-book : goal.returns-then-k-book
unfolding record_answer
returns-then-k-book c = note_past _ _ _ (omega arith) ∙ ap note_from (ap (record_from _ _) (sym (sym c.read_book.ensures ∙ c.in_ok-book.was)))

pub place_of-at-requires : goal.place_of-at-requires
place_of-at-requires c =
    let b : AcceptedBook c.args.file.now c.in_ok-book.book = book_accepted _ (sym c.read_book.ensures ∙ c.in_ok-book.was) in
    record { first_record_in_bounds = b.long; k_in_bounds = omega (arith, b.count) }

pub invariant_of-texts : goal.invariant_of-texts
invariant_of-texts c =
    let b : AcceptedBook c.args.file.now c.in_ok-book.book = book_accepted _ (sym c.read_book.ensures ∙ c.in_ok-book.was) in
    record { there = rw c.place_of-at.ensures.0 (record_there _ b.long _ (omega (arith, b.count))) }

pub returns : goal.returns
unfolding record_answer
returns c =
    note_there _ _ _ (omega arith) (c.texts.ensures.1 ∙ ap (λ (n : ℕ). (entry_at c.args.file.now n).note) c.place_of-at.ensures.0)
    ∙ ap note_from (ap (record_from _ _) (sym (sym c.read_book.ensures ∙ c.in_ok-book.was)))
