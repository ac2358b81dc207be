-- `week_after` meets its contract: the days end, the rule ends, or it shows, by the laws of a week later.
use Rattle.std.proofs.Common.{arith}
use Rattle.occurrences.proofs.Laws.After.{week-days, week-dates, week-shows}
use Rattle.occurrences.proofs.hits.week_after.Goals as goal

pub returns-then-days-k : goal.returns-then-days-k
returns-then-days-k c = week-days c.requires.days.spanned c.args.c c.args.r c.args.j (omega arith) c.requires.kind_value c.requires.j_value (omega arith)

pub returns-then-r-date_in : goal.returns-then-r-date_in
returns-then-r-date_in c = week-dates c.requires.days.spanned c.args.c c.args.r c.args.j (omega arith) c.requires.kind_value c.requires.j_value (omega arith) (omega arith)

pub returns-else-r-date_in : goal.returns-else-r-date_in
returns-else-r-date_in c = week-shows c.requires.days.spanned c.args.c c.args.r c.args.j (omega arith) c.requires.kind_value c.requires.j_value (omega arith) (omega arith)
