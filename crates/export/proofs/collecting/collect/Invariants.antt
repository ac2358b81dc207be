-- `collect` meets its contract: a record that shows is taken in, another is passed, by the laws of `Collecting`.
use Rattle.std.proofs.Common.{drop, length, ◌≡◌}
use Rattle.export.specs.Passes.{marked}
use Rattle.export.proofs.Laws.Collecting.{Collecting}
use Rattle.export.proofs.collecting.collect.Given as goal

abbrev pub invariant-loop-number : goal.invariant-loop-number
invariant-loop-number l = Collecting l.file (marked l.span.choice l.span.days.now) l.span.days.now l.number l.at l.count l.codes l.sums × (length l.codes ≡ length l.initial.codes) × (drop l.count l.codes ≡ drop l.count l.initial.codes)
