-- `block_ok` meets its contract: each return is the choice that its tests make.
use Rattle.std.proofs.Common.{arith, false, refl, true, ℕ, ◌≡◌}
use Rattle.std.proofs.lemmas.Bool.{lt-leb, le-leb}
use Rattle.std.proofs.Math.Dec.{leb}
use Rattle.prelude.specs.Choice.{if_lt}
use Rattle.prelude.proofs.Laws.Choice.{lt_yes, lt_no, eq_yes, eq_no, lt_elim}
use Rattle.calendar.specs.Reader.{block_ok, offset_at}
use Rattle.calendar.proofs.reading.block_ok.Goals as goal
use Rattle.calendar.proofs.reading.block_ok.Goals.{then-offset-gt-LAST_BLOCK-via-then-offset-gt-LAST_BLOCK, then-offset-gt-LAST_BLOCK-via-else-offset-gt-LAST_BLOCK+then-block-table_end, then-offset-gt-LAST_BLOCK-via-else-offset-gt-LAST_BLOCK+else-block-table_end+then-file-block}
use Rattle.calendar.proofs.reading.block_ok.Goals.{then-word_in-ne0-via-then-word_in-ne0, then-word_in-ne0-via-else-word_in-ne0+then-word_in, then-word_in-ne0-via-else-word_in-ne0+else-word_in+then-word_in-ne1}

pub returns-then-offset-gt-LAST_BLOCK : goal.returns-then-offset-gt-LAST_BLOCK
unfolding block_ok
returns-then-offset-gt-LAST_BLOCK c = elim c.then-offset-gt-LAST_BLOCK.branch [
  | then-offset-gt-LAST_BLOCK-via-then-offset-gt-LAST_BLOCK w ↦ lt_yes _ _ _ (omega arith) refl
  | then-offset-gt-LAST_BLOCK-via-else-offset-gt-LAST_BLOCK+then-block-table_end w ↦ lt_no _ _ _ (omega arith) (lt_yes _ _ _ (omega arith) refl)
  | then-offset-gt-LAST_BLOCK-via-else-offset-gt-LAST_BLOCK+else-block-table_end+then-file-block w ↦ lt_no _ _ _ (omega arith) (lt_no _ _ _ (omega arith) (lt_yes _ _ _ (omega arith) refl))
]

pub returns-then-word_in-ne0 : goal.returns-then-word_in-ne0
unfolding block_ok
returns-then-word_in-ne0 c =
    let o : offset_at c.args.file.now c.args.p ≡ c.from-offset.result = omega arith in
    rw o (lt_no _ _ _ (omega arith) (lt_no _ _ _ (omega arith) (lt_no _ _ _ (omega arith)
    (elim c.then-word_in-ne0.branch [
      | then-word_in-ne0-via-then-word_in-ne0 w ↦ eq_no _ _ _ (omega arith) refl
      | then-word_in-ne0-via-else-word_in-ne0+then-word_in w ↦ eq_yes _ _ _ (omega arith) (eq_no _ _ _ (omega arith) refl)
      | then-word_in-ne0-via-else-word_in-ne0+else-word_in+then-word_in-ne1 w ↦ eq_yes _ _ _ (omega arith) (eq_yes _ _ _ (omega arith) (eq_no _ _ _ (omega arith) refl))
    ]))))

-- The test that the list ends in the file, as the definition's choice.
fits : (a b m : ℕ) → a ≡ m → leb a b ≡ if_lt b m false true
fits a b m e = lt_elim (λ z. leb a b ≡ z) b m false true (λ h. lt-leb a b (omega arith)) (λ h. le-leb a b (omega arith))

pub returns : goal.returns
unfolding block_ok
returns c =
    let o : offset_at c.args.file.now c.args.p ≡ c.from-offset.result = omega arith in
    rw o (lt_no _ _ _ (omega arith) (lt_no _ _ _ (omega arith) (lt_no _ _ _ (omega arith) (eq_yes _ _ _ (omega arith) (eq_yes _ _ _ (omega arith) (eq_yes _ _ _ (omega arith) (fits _ _ _ (omega arith))))))))
