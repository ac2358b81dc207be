-- `print_in` meets its contract: the larger working space has room for all records of any book.
use Rattle.pages.proofs.Laws.Pages.{ready_most}
use Rattle.printing.proofs.calls.print_in.Goals as goal

pub print_within-requires-else-a-le64-clause-records_in_bounds : goal.print_within-requires-else-a-le64-clause-records_in_bounds
print_within-requires-else-a-le64-clause-records_in_bounds c = ready_most c.requires
