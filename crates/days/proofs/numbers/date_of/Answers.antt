-- `date_of` meets its contract: the month that the search found, by the law of a date in its month.
use Rattle.std.proofs.Common.{sym}
use Rattle.days.specs.Table.{InMonth}
use Rattle.days.proofs.Laws.Table.{date_in_month_lem}
use Rattle.days.proofs.numbers.date_of.Goals as goal

pub returns : goal.returns
returns c = rw c.month_of-m.ensures.starts (sym (date_in_month_lem (let inside : InMonth c.args.n.0 c.month_of-m.result.number = rw c.month_of-m.ensures.month c.month_of-m.ensures.halvings.inside in inside)))
