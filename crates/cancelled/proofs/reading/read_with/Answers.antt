-- `read_with` meets its contract: the book decides, then its list.
use Rattle.std.proofs.Common.{sym, ◌∙◌}
use Rattle.prelude.proofs.Laws.Results.{err_passed}
use Rattle.book.proofs.Laws.Books.{book_accepted}
use Rattle.cancelled.proofs.Laws.Lists.{book_with_fine, book_with-refused, refused-book_with}
use Rattle.cancelled.proofs.reading.read_with.Goals as goal

pub returns-in_err-b : goal.returns-in_err-b
returns-in_err-b c = err_passed c.from_residual.ensures.1 ∙ refused-book_with _ _ (sym c.read_book.ensures ∙ c.in_err-b.was)

pub judge_list-requires : goal.judge_list-requires
judge_list-requires c =
    let a = book_accepted _ (sym c.read_book.ensures ∙ c.in_ok-b.was) in
    record { first_record_in_bounds = a.long; records_value = a.count }

pub returns-in_err-judge_list : goal.returns-in_err-judge_list
returns-in_err-judge_list c =
    err_passed c.from_residual-in_err-judge_list.ensures.1
    ∙ book_with-refused _ _ (sym c.read_book.ensures ∙ c.in_ok-b.was) c.judge_list.ensures c.in_err-judge_list.was

pub returns : goal.returns
returns c = book_with_fine _ _ (sym c.read_book.ensures ∙ c.in_ok-b.was) c.judge_list.ensures c.in_ok-judge_list.was
