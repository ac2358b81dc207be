-- `short_lines` meets its contract. The loop keeps: all lines are short where those from `start` on are.
use Rattle.std.proofs.Common.{arith, refl, sym, ◌∙◌}
use Rattle.texts.proofs.Laws.Rules.{short-jump, short-never, short_end}
use Rattle.texts.proofs.rules.short_lines.Goals as goal

pub returns-in_default : goal.returns-in_default
returns-in_default c = sym (c.loop-start.invariant.1 ∙ short-never (omega arith) c.in_default.ensures refl)

pub loop-start-preserved : goal.loop-start-preserved
loop-start-preserved c = (omega (arith, c.in-Some.ensures.1.high), c.loop-start.invariant.1 ∙ short-jump (omega arith) c.in-Some.ensures.1 (λ e. omega (arith, c.in-Some.ensures.0)))

pub returns : goal.returns
returns c = sym (c.loop-start.invariant.1 ∙ short_end _ c.loop-start.start (omega arith))
