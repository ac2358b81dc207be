-- `facts_at` meets its contract: the date of a real date's day is that date, by `facts-on`.
use Rattle.std.proofs.Common.{arith}
use Rattle.days.proofs.Laws.Days.{number_bound}
use Rattle.day_steps.proofs.Laws.Moves.{facts-on}
use Rattle.day_steps.proofs.moving.facts_at.Goals as goal

pub weekday_of-requires : goal.weekday_of-requires
weekday_of-requires c = omega (arith, number_bound c.requires.real_date, c.requires.d_value)

pub returns : goal.returns
returns c = rw (c.weekday_of.ensures, c.month_days.ensures) (facts-on c.requires.real_date c.requires.d_value)
