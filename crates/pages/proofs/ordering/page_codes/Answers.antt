-- `page_codes` meets its contract: collected in the book's order, then ordered, by `page_codes`.
use Rattle.std.proofs.Common.{ap, arith, sym, ◌∙◌}
use Rattle.pages.proofs.Laws.Codes.{page_codes, ordered-front, ordered-behind}
use Rattle.sorting.specs.Codes.{minute_in}
use Rattle.sorting.specs.Order.{sort}
use Rattle.pages.proofs.ordering.page_codes.Goals as goal

pub returns : goal.returns
returns c = record { upper_bound = omega arith; codes_after = ordered-front c.collect-n.new.codes c.collect-n.result (omega arith) c.order_codes.ensures ∙ ap (sort minute_in) c.collect-n.ensures.codes_after ∙ sym (page_codes _ _); codes_unchanged = ordered-behind c.collect-n.new.codes c.collect-n.result (omega arith) c.order_codes.ensures ∙ c.collect-n.ensures.codes_unchanged }
