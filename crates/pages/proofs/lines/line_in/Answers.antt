-- `line_in` meets its contract: either working space has room for all records.
use Rattle.pages.proofs.Laws.Pages.{ready_most}
use Rattle.pages.proofs.lines.line_in.Goals as goal

pub line_with-requires-2-clause-records_in_bounds : goal.line_with-requires-2-clause-records_in_bounds
line_with-requires-2-clause-records_in_bounds c = ready_most c.requires
