-- `span_ok` meets its contract: each return by the tests before it.
use Rattle.std.proofs.Common.{arith, false, refl, true, ◌≡◌, ℕ}
use Rattle.std.proofs.lemmas.Bool.{le-leb, lt-leb}
use Rattle.std.proofs.Math.Dec.{leb}
use Rattle.prelude.specs.Choice.{if_lt}
use Rattle.prelude.proofs.Laws.Choice.{lt_elim, lt_yes, lt_no}
use Rattle.export.specs.Export.{span_ok}
use Rattle.export.proofs.deciding.span_ok.Goals as goal
use Rattle.export.proofs.deciding.span_ok.Goals.{then-first-gt-LAST_DAY-via-then-first-gt-LAST_DAY, then-first-gt-LAST_DAY-via-else-first-gt-LAST_DAY+then-count-gt-MOST_COUNT}

pub returns-then-first-gt-LAST_DAY : goal.returns-then-first-gt-LAST_DAY
unfolding span_ok
returns-then-first-gt-LAST_DAY c =
    elim c.then-first-gt-LAST_DAY.branch [
      | then-first-gt-LAST_DAY-via-then-first-gt-LAST_DAY w ↦ lt_yes _ _ _ (omega arith) refl
      | then-first-gt-LAST_DAY-via-else-first-gt-LAST_DAY+then-count-gt-MOST_COUNT w ↦ lt_no _ _ _ (omega arith) (lt_yes _ _ _ (omega arith) refl)
    ]

-- The last test, as the definition's choice.
at_most : (a b : ℕ) → leb a b ≡ if_lt b a false true
at_most a b = lt_elim (λ z. leb a b ≡ z) b a false true (λ h. lt-leb a b h) (λ h. le-leb a b h)

pub returns : goal.returns
unfolding span_ok
returns c = lt_no _ _ _ (omega arith) (lt_no _ _ _ (omega arith) (at_most _ _))
