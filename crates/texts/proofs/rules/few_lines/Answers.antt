-- `few_lines` meets its contract. The loop keeps: the zeros counted and the lines from a place on are all lines.
use Rattle.std.proofs.Common.{arith, get_or-take, length, length-take-le, sym, take, ◌+◌, ◌-◌, ◌∙◌, ◌≡◌}
use Rattle.texts.specs.Notes.{lines_of}
use Rattle.texts.proofs.Laws.Rules.{count_zero, count_other, count_last, leb_same}
use Rattle.texts.proofs.rules.few_lines.Goals as goal
use Rattle.texts.proofs.rules.few_lines.Goals.{then-b-eq0, else-b-eq0}

pub loop-b-preserved : goal.loop-b-preserved
loop-b-preserved c =
    let s = c.args.s.now in
    let i = c.loop-b.b-index in
    let l : length (take (length s - 1) s) ≡ length s - 1 = length-take-le (length s - 1) s (omega arith) in
    let e = get_or-take (length s - 1) s i 0 (omega arith) in
    elim c.if-b-eq0.branch [
      | then-b-eq0 w ↦ omega (arith, count_zero s i (omega arith) (sym e ∙ w.if-b-eq0.true))
      | else-b-eq0 w ↦ omega (arith, count_other s i (omega arith) (λ z. w.if-b-eq0.false (e ∙ z)))
    ]

pub returns : goal.returns
returns c =
    let s = c.args.s.now in
    let l : length (take (length s - 1) s) ≡ length s - 1 = length-take-le (length s - 1) s (omega arith) in
    let counted : length (lines_of s) ≡ c.loop-b.zeros + 1 = omega (arith, count_last s c.loop-b.b-index (omega arith)) in
    leb_same (λ h. omega arith) (λ h. omega arith)
