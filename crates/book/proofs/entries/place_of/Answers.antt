-- `place_of` meets its contract: the first record's place is the first, by `cursor-ahead`.
use Rattle.std.proofs.Common.{arith, sym}
use Rattle.book.proofs.Laws.Books.{cursor_first, cursor-ahead}
use Rattle.book.proofs.entries.place_of.Goals as goal

pub place_from-requires : goal.place_from-requires
place_from-requires c = record { first_record_in_bounds = c.requires.first_record_in_bounds; n_le_k = omega arith; k_in_bounds = omega arith; place_value = sym (cursor-ahead _ _ _ (cursor_first _ c.requires.first_record_in_bounds) (omega arith)).place }
