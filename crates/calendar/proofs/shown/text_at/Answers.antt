-- `text_at` meets its contract: the stretch of the appointment there, or nothing.
use Rattle.std.proofs.Common.{ap, sym, ◌∙◌}
use Rattle.calendar.specs.Shown.{appointment_text_in}
use Rattle.calendar.proofs.shown.text_at.Goals as goal

pub returns-in_default : goal.returns-in_default
unfolding appointment_text_in
returns-in_default c = ap (appointment_text_in _) (sym c.in_default.is ∙ c.appointment_at.ensures)

pub returns : goal.returns
unfolding appointment_text_in
returns c = c.of.ensures ∙ ap (appointment_text_in _) (sym c.in-Ok.is ∙ c.appointment_at.ensures)
