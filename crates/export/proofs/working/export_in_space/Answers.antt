-- `export_in_space` meets its contract: the fronts of its lists are as long as the span.
use Rattle.std.proofs.Common.{arith, length, refl, take, ◌≡◌}
use Rattle.calendar.specs.File.{zeros}
use Rattle.calendar.proofs.Laws.File.{length-zeros}
use Rattle.export.proofs.Laws.Export.{length-take-zeros, take-zeros_at_most}
use Rattle.export.proofs.working.export_in_space.Goals as goal

pub export_days-requires : goal.export_days-requires
export_days-requires g c =
    let r = c.requires.valid_request in
    let long : length (take c.args.count (zeros g.row.SPAN)) ≡ c.args.count = length-take-zeros g.row.SPAN c.args.count c.requires.count_bound in
    record {
      valid_request = record { book = r.book; facts = r.facts; end = omega (arith, long, r.end); most = omega (arith, long, r.most) };
      space = record { each-sum = refl; clear = take-zeros_at_most g.row.SPAN c.args.count c.requires.count_bound; each-place = refl; all_codes = omega (arith, length-zeros g.row.RECORDS, c.requires.records_bound); all-spare = omega arith };
    }
