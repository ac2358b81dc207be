-- `page_size` meets its contract: no page is so large that the sum would not fit.
use Rattle.std.proofs.Common.{arith}
use Rattle.pages.specs.Pages.{falls_on}
use Rattle.printing.proofs.Laws.Sizes.{page_most, page_sizes}
use Rattle.printing.proofs.measures.page_size.Goals as goal

pub overflow_add-result : goal.overflow_add-result
overflow_add-result c = let m = page_most (falls_on c.args.c) c.args.file.now c.args.a c.requires in grind (arith, page_sizes)

pub overflow_add-result-2 : goal.overflow_add-result-2
overflow_add-result-2 c = let m = page_most (falls_on c.args.c) c.args.file.now c.args.a c.requires in grind (arith, page_sizes)
