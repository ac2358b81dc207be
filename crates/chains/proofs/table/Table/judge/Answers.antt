-- The tests of an entry, and of the last one, are those of `entry_bad`.
use Rattle.std.proofs.Common.{ap, arith, refl, sym, true, false, ⊎_elim, ◌∙◌, ◌≡◌}
use Rattle.prelude.proofs.Laws.Bytes.{at_bytes}
use Rattle.prelude.proofs.Laws.Choice.{eq_yes, eq_no, lt_yes, lt_no}
use Rattle.prelude.proofs.Laws.Verdicts.{unless_bad-true, unless_bad-false, in-turn-fine, in-turn-refused, in-turn-past}
use Rattle.chains.specs.Chains.{entry_bad, entry_verdict}
use Rattle.chains.specs.Dates.{day_bad}
use Rattle.chains.proofs.Laws.Dates.{day-judged, next_least, last-cut, last-without, last-good}
use Rattle.chains.proofs.table.Table.judge.Goals as goal
use Rattle.chains.proofs.table.Table.judge.Goals.{then-self-lt5-via-then-self-lt5, then-self-lt5-via-else-self-lt5+then-head_at-2}

pub returns-then-head_at : goal.returns-then-head_at
unfolding day_bad
returns-then-head_at c =
    let bad : true ≡ day_bad c.head_at.result c.date_at-date.result c.loop-i.low = ⊎_elim (λ e. eq_yes _ _ _ e refl) (λ n. eq_no _ _ _ n.0 (lt_yes _ _ _ n.1 refl)) c.then-head_at.either in
    rw c.at.ensures (sym (c.loop-i.invariant.1 ∙ in-turn-refused _ _ _ (omega arith) refl (unless_bad-true _ _ (sym (day-judged _ (at_bytes _ c.args.self.now.of_bytes) _ (omega arith) c.head_at.ensures c.date_at-date.ensures.0 c.loop-i.invariant.0 bad)))))

pub loop-i-preserved : goal.loop-i-preserved
unfolding day_bad
loop-i-preserved c =
    let good : false ≡ day_bad c.head_at.result c.date_at-date.result c.loop-i.low = eq_no _ _ _ c.if-head_at.false (lt_no _ _ _ (omega arith) refl) in (
      next_least c.args.self.now.bytes.now c.loop-i.i (omega arith),
      c.loop-i.invariant.1 ∙ in-turn-fine _ _ _ (omega arith) refl (unless_bad-false _ _ (sym (day-judged _ (at_bytes _ c.args.self.now.of_bytes) _ (omega arith) c.head_at.ensures c.date_at-date.ensures.0 c.loop-i.invariant.0 good))),
    )

pub returns-then-self-lt5 : goal.returns-then-self-lt5
returns-then-self-lt5 c =
    let i : c.args.self.now.days ≡ c.loop-i.i = omega arith in
    let bad : entry_bad c.args.self.now.bytes.now c.args.self.now.days ≡ true = elim c.then-self-lt5.branch [
      | then-self-lt5-via-then-self-lt5 w ↦ last-cut _ _ (omega arith) (omega arith)
      | then-self-lt5-via-else-self-lt5+then-head_at-2 w ↦ last-without _ _ (omega arith) (omega arith) (λ e. omega arith)
    ] in
    rw c.at-then-self-lt5.ensures (sym (c.loop-i.invariant.1 ∙ in-turn-refused _ _ _ (omega arith) (ap (entry_verdict _) i) (unless_bad-true _ _ bad)))

pub returns : goal.returns
returns c =
    let i : c.args.self.now.days ≡ c.loop-i.i = omega arith in
    let good : entry_bad c.args.self.now.bytes.now c.args.self.now.days ≡ false = last-good _ _ (omega arith) (omega arith) (omega arith) in
    sym (c.loop-i.invariant.1 ∙ in-turn-fine _ _ _ (omega arith) (ap (entry_verdict _) i) (unless_bad-false _ _ good) ∙ in-turn-past _ _ _ (omega arith))
