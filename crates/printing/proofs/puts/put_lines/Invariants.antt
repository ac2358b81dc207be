-- `put_lines`: what is left to write are the lines of the codes ahead.
use Rattle.std.proofs.Common.{drop}
use Rattle.prelude.proofs.Laws.Grown.{Grown}
use Rattle.printing.specs.Printed.{page_lines}
use Rattle.printing.specs.Coded.{coded_lines}
use Rattle.printing.proofs.puts.put_lines.Given as goal

abbrev pub invariant-loop-code : goal.invariant-loop-code
invariant-loop-code l = Grown l.initial.out l.at (page_lines l.file (coded_lines l.file l.f l.codes)) l.out l.pos (page_lines l.file (coded_lines l.file l.f (drop l.code-index l.codes)))
