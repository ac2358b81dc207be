-- `lines_size`: so much is counted, and so much the codes ahead add, by `lines-on`.
use Rattle.std.proofs.Common.{drop, length, ◌+◌, ◌≡◌}
use Rattle.printing.specs.Printed.{page_lines}
use Rattle.printing.specs.Coded.{coded_lines}
use Rattle.printing.proofs.types.Coded.lines_size.Given as goal

abbrev pub invariant-loop-code : goal.invariant-loop-code
invariant-loop-code l = length (page_lines l.self.file.now (coded_lines l.self.file.now l.self.facts l.self.codes.now)) ≡ l.bytes + length (page_lines l.self.file.now (coded_lines l.self.file.now l.self.facts (drop l.code-index l.self.codes.now)))
