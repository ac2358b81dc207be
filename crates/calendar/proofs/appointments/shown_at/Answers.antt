-- `shown_at` meets its contract: its fields are what its callees give.
use Rattle.calendar.specs.Shown.{shown_at}
use Rattle.calendar.proofs.appointments.shown_at.Goals as goal

pub returns : goal.returns
unfolding shown_at
returns c = rw (c.word_in-minute.ensures, c.from-flags.ensures, c.size_at-size.ensures.0)
