-- `line_with` meets its contract: the code at that place of the ordered page, by `nth-code`, or none.
use Rattle.std.proofs.Common.{Ok, ap, arith, sym, ◌∙◌}
use Rattle.pages.specs.Answers.{page_line_in}
use Rattle.pages.proofs.Laws.Nth.{nth-code, nth-no-code}
use Rattle.pages.proofs.lines.line_with.Goals as goal

pub returns-then-k-n : goal.returns-then-k-n
unfolding page_line_in
returns-then-k-n g c = ap Ok c.line_of.ensures ∙ sym (nth-code _ c.requires.ready_book.long c.requires.ready_book.size _ c.page_codes-n.new.codes c.page_codes-n.result (omega arith) c.page_codes-n.ensures.codes_after _ _ _ (omega arith))

pub returns : goal.returns
unfolding page_line_in
returns g c = sym (nth-no-code _ c.requires.ready_book.long c.requires.ready_book.size _ c.page_codes-n.new.codes c.page_codes-n.result (omega arith) c.page_codes-n.ensures.codes_after _ _ _ (omega arith))
