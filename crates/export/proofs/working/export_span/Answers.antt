-- `export_span` meets its contract: a book has no more records than the larger space.
use Rattle.export.proofs.Laws.Export.{records_most}
use Rattle.export.proofs.working.export_span.Goals as goal

pub export_in_space-requires-2-clause-records_bound : goal.export_in_space-requires-2-clause-records_bound
export_in_space-requires-2-clause-records_bound c = records_most c.args.file.now c.requires.book
