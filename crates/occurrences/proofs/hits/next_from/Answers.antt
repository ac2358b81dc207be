-- `next_from` meets its contract: no day passed shows, the skipped ones by `spanned_not`.
use Rattle.std.proofs.Common.{arith}
use Rattle.std.proofs.Common.{◌≡◌, false, get_or, sym, ◌∙◌, arith}
use Rattle.prelude.proofs.Laws.Choice.{lt_elim}
use Rattle.occurrences.specs.Rules.{rule_shows}
use Rattle.occurrences.proofs.Laws.Waits.{wait_least, spanned_not}
use Rattle.occurrences.proofs.hits.next_from.Goals as goal

pub loop-j-smaller : goal.loop-j-smaller
loop-j-smaller c = omega (arith, wait_least c.args.r (get_or c.args.days.now c.loop-j.j 0), c.wait_for.ensures)

pub loop-j-preserved : goal.loop-j-preserved
loop-j-preserved c = (
  omega arith,
  λ k from less inside.
      lt_elim {X = Unit {0}} (λ _. rule_shows c.args.c c.args.r (get_or c.args.days.now k 0) ≡ false) k c.loop-j.j tt tt (λ h. c.loop-j.invariant.1 k from h inside)
      (λ g. lt_elim {X = Unit {0}} (λ _. rule_shows c.args.c c.args.r (get_or c.args.days.now k 0) ≡ false) c.loop-j.j k tt tt
      (λ h. spanned_not c.requires.spanned c.args.c c.args.r c.loop-j.j k h inside (omega (arith, less, c.wait_for.ensures)))
      (λ h. let e : k ≡ c.loop-j.j = omega arith in rw e (sym c.rule_shows.ensures ∙ c.if-rule_shows.false))),
)
