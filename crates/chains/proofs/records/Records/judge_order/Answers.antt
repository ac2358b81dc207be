-- A record without a rank is refused like one of rank 0.
use Rattle.std.proofs.Common.{ap, arith, sym, ◌∙◌}
use Rattle.prelude.proofs.Laws.Choice.{is_lt}
use Rattle.chains.specs.Ranks.{ranked}
use Rattle.chains.proofs.Laws.Ranks.{ordered-ranked, ranks-bad, ranks-on, ranks-none}
use Rattle.chains.proofs.Laws.Steps.{ahead-less, ends_next}
use Rattle.chains.proofs.records.Records.judge_order.Goals as goal
use Rattle.chains.proofs.records.Records.judge_order.Goals.{in_default-via-in-Some+else-low-rank, in_default-via-in_default}

pub loop-here-init : goal.loop-here-init
loop-here-init c = rw c.from-here.ensures (λ _. c.requires, ordered-ranked _ _ _ ∙ sym (ap (ranked _ _ 1) (is_lt c.requires.from _ _)), omega arith)

pub returns-in_default : goal.returns-in_default
returns-in_default c =
    let e = c.loop-here.invariant.0 (omega arith) in
    rw c.at.ensures (sym (c.loop-here.invariant.1 ∙ elim c.in_default.branch [
      | in_default-via-in-Some+else-low-rank w ↦ ranks-bad _ _ _ _ _ e w.in-Some.ensures.0 (omega arith)
      | in_default-via-in_default w ↦ ranks-bad _ _ _ _ _ e {x = 0} (sym w.in_default.ensures) (omega arith)
    ]))

pub loop-here-smaller : goal.loop-here-smaller
loop-here-smaller c = rw c.from-here-in-loop-here.ensures (ahead-less _ _ (c.loop-here.invariant.0 (omega arith)))

pub loop-here-preserved : goal.loop-here-preserved
loop-here-preserved c =
    let e = c.loop-here.invariant.0 (omega arith) in
    rw c.from-here-in-loop-here.ensures (λ h. ends_next _ _ e h, c.loop-here.invariant.1 ∙ ranks-on _ _ _ _ _ e c.in-Some.ensures.0 (omega arith), omega arith)

pub returns : goal.returns
returns c = sym (c.loop-here.invariant.1 ∙ ranks-none _ _ c.args.self.now.next.now _ _ (omega arith))
