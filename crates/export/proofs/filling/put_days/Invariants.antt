-- `put_days` meets its contract: the blocks stand empty, and each record puts its appointment on its days, by the laws of `Ready`.
use Rattle.std.proofs.Common.{length, ◌*◌, ◌+◌, ◌≡◌, ◌≤◌}
use Rattle.calendar_writer.specs.Sums.{units_to}
use Rattle.export.specs.Passes.{marked, so_far}
use Rattle.calendar_writer.specs.Scatter.{FilledBlocks}
use Rattle.export.proofs.filling.put_days.Given as goal

abbrev pub invariant-loop-code : goal.invariant-loop-code
invariant-loop-code l = FilledBlocks l.initial.out l.at l.span.first l.filling.sums.now (so_far l.filling.file.now l.filling.settings.interval (marked l.span.choice l.span.days.now) l.filling.codes.now l.code-index) l.places l.out × (length l.places ≡ length l.span.days.now) × (l.at + 64 * units_to (length l.filling.sums.now) l.filling.sums.now ≤ length l.initial.out)
