-- `judge_table` meets its contract. The loop keeps: the table is what is left of it from descriptor k on, with no day below low.
use Rattle.std.proofs.Common.{Err, ap, arith, suc, sym, ℕ, List, ◌*◌, ◌+◌, ◌-◌, ◌<◌, ◌∙◌, ◌≡◌}
use Rattle.calendar.specs.Reader.{table_from}
use Rattle.calendar.proofs.Laws.Reader.{table_none, table-over, table-falls, table-rises}
use Rattle.calendar.proofs.head.judge_table.Goals as goal
use Rattle.calendar.proofs.head.judge_table.Goals.{then-day-gt-LAST_DAY-via-then-day-gt-LAST_DAY, then-day-gt-LAST_DAY-via-else-day-gt-LAST_DAY+then-day-low}

-- Descriptor k is the first of those that are left.
left : (f : List ℕ) (n k p low : ℕ) → k < n → table_from (n - k) f p low ≡ table_from (suc (n - (k + 1))) f p low
left f n k p low h = ap (λ (m : ℕ). table_from m f p low) (omega arith)

pub loop-k-preserved : goal.loop-k-preserved
loop-k-preserved c =
    let e : 64 + 12 * (c.loop-k.k + 1) ≡ 64 + 12 * c.loop-k.k + 12 = omega arith in
    rw (e, c.word_in-day.ensures) (c.loop-k.invariant ∙ left _ _ _ _ _ (omega arith) ∙ table-rises _ _ _ _ (omega arith) (omega arith))

pub returns-then-day-gt-LAST_DAY : goal.returns-then-day-gt-LAST_DAY
returns-then-day-gt-LAST_DAY c =
    let one = c.loop-k.invariant ∙ left _ _ _ _ _ (omega arith) in
    elim c.then-day-gt-LAST_DAY.branch [
      | then-day-gt-LAST_DAY-via-then-day-gt-LAST_DAY w ↦ ap Err c.at.ensures ∙ sym (one ∙ table-over _ _ _ _ (omega arith))
      | then-day-gt-LAST_DAY-via-else-day-gt-LAST_DAY+then-day-low w ↦ ap Err c.at.ensures ∙ sym (one ∙ table-falls _ _ _ _ (omega arith) (omega arith))
    ]

pub returns : goal.returns
returns c = sym (c.loop-k.invariant ∙ ap (λ (n : ℕ). table_from n c.args.file.now (64 + 12 * c.loop-k.k) c.loop-k.low) (omega arith) ∙ table_none _ _ _)
