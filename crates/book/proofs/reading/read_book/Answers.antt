-- `read_book` meets its contract: each return is the choice that its tests make.
use Rattle.std.proofs.Common.{arith, sym, ◌∙◌}
use Rattle.std.proofs.lemmas.Grind.{common_steps}
use Rattle.prelude.specs.Choice.{if_lt, if_b}
use Rattle.book.specs.Books.{book_of}
use Rattle.book.proofs.Laws.Books.{settings_long}
use Rattle.book.proofs.reading.read_book.Goals as goal

pub returns-then-file-gt-MOST_BOOK_BYTES : goal.returns-then-file-gt-MOST_BOOK_BYTES
unfolding book_of if_lt if_b
returns-then-file-gt-MOST_BOOK_BYTES c = grind (arith, common_steps)

pub returns-then-not-is_identified : goal.returns-then-not-is_identified
unfolding book_of if_lt if_b
returns-then-not-is_identified c = grind (arith, common_steps)

pub returns-then-not-settings_ok : goal.returns-then-not-settings_ok
unfolding book_of if_lt if_b
returns-then-not-settings_ok c = grind (arith, common_steps)

pub read_records-requires : goal.read_records-requires
read_records-requires c = settings_long _ (sym c.settings_ok.ensures ∙ c.if-not-settings_ok.false)

pub returns : goal.returns
unfolding book_of if_lt if_b
returns c = grind (arith, common_steps)
