-- `settings_for` meets its contract: its callees give the three that are made.
use Rattle.export.specs.Export.{settings_for}
use Rattle.export.proofs.Laws.Export.{mark_bit}
use Rattle.export.proofs.settings.settings_for.Goals as goal

pub returns : goal.returns
unfolding settings_for
returns c = rw (c.from.ensures, mark_bit c.args.s.alarm, c.code_of.ensures, c.interval_of.ensures)
