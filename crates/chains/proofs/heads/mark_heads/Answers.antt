-- A head judged by the marks is judged as defined (`marked_bad`).
use Rattle.std.proofs.Common.{arith, sym, ◌∙◌, ◌≡◌, length-set, Bool, true, false, refl}
use Rattle.std.proofs.lemmas.List.{length-replicate}
use Rattle.prelude.proofs.Laws.Choice.{lt_yes, lt_no, eq_yes, eq_no}
use Rattle.prelude.proofs.Laws.Verdicts.{unless_bad-true, unless_bad-false, in-turn-first, in-turn-fine, in-turn-refused, in-turn-past}
use Rattle.chains.specs.Chains.{head_bad}
use Rattle.chains.specs.Marks.{head_marked}
use Rattle.chains.proofs.Laws.Marks.{none-met, mark-met, mark-read, marked_bad}
use Rattle.chains.proofs.heads.mark_heads.Goals as goal
use Rattle.chains.proofs.heads.mark_heads.Goals.{then-head-previous-via-then-head-previous, then-head-previous-via-else-head-previous+then-previous-head, then-head-previous-via-else-head-previous+else-previous-head+then-met-head}

pub loop-i-init : goal.loop-i-init
loop-i-init g c = (length-replicate {A = Bool} _ false, none-met _ _, in-turn-first _ _)

pub returns-then-head-previous : goal.returns-then-head-previous
unfolding head_marked
returns-then-head-previous g c =
    let bad : true ≡ head_bad c.args.table.now.bytes.now c.args.previous.now c.loop-i.i =
    marked_bad _ _ _ _ {h = c.from-head.result} (omega arith) c.loop-i.invariant.1 (omega arith) (elim c.then-head-previous.branch [
      | then-head-previous-via-then-head-previous w ↦ lt_no _ _ _ (omega arith) refl
      | then-head-previous-via-else-head-previous+then-previous-head w ↦ lt_yes _ _ _ (omega arith) (eq_no _ _ _ (λ e. omega arith) refl)
      | then-head-previous-via-else-head-previous+else-previous-head+then-met-head w ↦ lt_yes _ _ _ (omega arith) (eq_yes _ _ _ (omega arith) (mark-read c.loop-i.met c.from-head.result w.if-met-head.true))
    ]) in
    rw c.at.ensures (sym (c.loop-i.invariant.2 ∙ in-turn-refused _ _ _ (omega arith) refl (unless_bad-true _ _ (sym bad))))

pub loop-i-preserved : goal.loop-i-preserved
unfolding head_marked
loop-i-preserved g c =
    let good : false ≡ head_bad c.args.table.now.bytes.now c.args.previous.now c.loop-i.i =
    marked_bad _ _ _ _ {h = c.from-head.result} (omega arith) c.loop-i.invariant.1 (omega arith) (lt_yes _ _ _ (omega arith) (eq_yes _ _ _ (omega arith) (mark-read c.loop-i.met c.from-head.result c.if-met-head.false))) in (
      simp length-set c.loop-i.invariant.0,
      mark-met _ _ _ _ c.loop-i.invariant.1 (omega arith),
      c.loop-i.invariant.2 ∙ in-turn-fine _ _ _ (omega arith) refl (unless_bad-false _ _ (sym good)),
    )

pub returns : goal.returns
returns g c = sym (c.loop-i.invariant.2 ∙ in-turn-past _ _ _ (omega arith))
