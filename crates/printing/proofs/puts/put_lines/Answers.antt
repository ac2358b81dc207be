-- `put_lines` meets its contract: what is left to write are the lines of the codes ahead.
use Rattle.std.proofs.Common.{ℕ, List, ap, arith, drop, get_or, length, sym, ◌++◌, ◌+◌, ◌<◌, ◌∙◌, ◌≡◌}
use Rattle.prelude.proofs.Laws.Grown.{Grown, grown-space, grown-more, grown-rest-equal, grown-end}
use Rattle.days.specs.declared.types.DayFacts.{DayFacts}
use Rattle.pages.specs.Codes.{decode}
use Rattle.pages.specs.Pages.{page_line_of}
use Rattle.pages.specs.declared.types.Line.{Line}
use Rattle.printing.specs.Printed.{page_line, page_lines}
use Rattle.printing.specs.Coded.{coded_lines}
use Rattle.printing.proofs.Laws.Printed.{lines_next, lines_end}
use Rattle.printing.proofs.puts.put_lines.Goals as goal

-- the line of the next code is the next to be written
line_ahead :
    (f : List ℕ) (d : DayFacts) (codes : List ℕ) (i : ℕ) {l : Line} {o₀ whole o : List ℕ} {at pos : ℕ} → i < length codes → l ≡ page_line_of d (decode f (get_or codes i 0))
    → Grown o₀ at whole o pos (page_lines f (coded_lines f d (drop i codes))) → Grown o₀ at whole o pos (page_line f l ++ page_lines f (coded_lines f d (drop (i + 1) codes)))
line_ahead f d codes i {l} h e g =
    grown-rest-equal (lines_next f d codes i h ∙ ap (λ (x : Line). page_line f x ++ page_lines f (coded_lines f d (drop (i + 1) codes))) (sym e)) g

pub put_line-pos-requires : goal.put_line-pos-requires
put_line-pos-requires c = grown-space (page_line _ _) _ (line_ahead c.args.file.now c.args.f c.args.codes.now c.loop-code.code-index (omega arith) c.line_of.ensures c.loop-code.invariant)

pub loop-code-preserved : goal.loop-code-preserved
loop-code-preserved c =
    grown-more _ (line_ahead c.args.file.now c.args.f c.args.codes.now c.loop-code.code-index (omega arith) c.line_of.ensures c.loop-code.invariant) c.put_line-pos.ensures.next c.put_line-pos.ensures.put

pub returns : goal.returns
returns c =
    let whole = grown-end (grown-rest-equal (lines_end c.args.file.now c.args.f c.args.codes.now c.loop-code.code-index (omega arith)) c.loop-code.invariant) in
    record { next = whole.0; put = whole.1 }
