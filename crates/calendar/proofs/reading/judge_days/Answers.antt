-- `judge_days` meets its contract. The loop keeps: the days are judged as those that are left from descriptor k on.
use Rattle.std.proofs.Common.{ap, arith, suc, sym, ℕ, List, ◌*◌, ◌+◌, ◌-◌, ◌<◌, ◌∙◌, ◌≡◌}
use Rattle.calendar.specs.Reader.{days_from}
use Rattle.calendar.proofs.Laws.Reader.{days-none, days-next, days-stop}
use Rattle.prelude.proofs.Laws.Results.{err_passed}
use Rattle.calendar.proofs.reading.judge_days.Goals as goal

-- Descriptor k is the first of those that are left.
left : (f : List ℕ) (n k p : ℕ) → k < n → days_from (n - k) f p ≡ days_from (suc (n - (k + 1))) f p
left f n k p h = ap (λ (m : ℕ). days_from m f p) (omega arith)

pub loop-k-preserved : goal.loop-k-preserved
loop-k-preserved c =
    let e : 64 + 12 * (c.loop-k.k + 1) ≡ 64 + 12 * c.loop-k.k + 12 = omega arith in
    rw e (c.loop-k.invariant ∙ left _ _ _ _ (omega arith) ∙ days-next _ _ _ (sym c.judge_day.ensures ∙ c.in_ok-judge_day.was))

pub returns-in_err-judge_day : goal.returns-in_err-judge_day
returns-in_err-judge_day c =
    err_passed c.from_residual.ensures.1
    ∙ sym (c.loop-k.invariant ∙ left _ _ _ _ (omega arith) ∙ days-stop _ _ _ (sym c.judge_day.ensures ∙ c.in_err-judge_day.was))

pub returns : goal.returns
returns c = sym (c.loop-k.invariant ∙ ap (λ (n : ℕ). days_from n c.args.file.now (64 + 12 * c.loop-k.k)) (omega arith) ∙ days-none _ _)
