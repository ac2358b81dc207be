-- The answer is the defined one, and what days promise is the theorem.
use Rattle.std.proofs.Common.{◌≡◌, ◌+◌, ◌-◌, arith}
use Rattle.std.proofs.lemmas.Result.{err_from_is_err_and}
use Rattle.chains.proofs.Laws.Stages.{answer-sizes, answer-empty, verdict-judged, answer-days, answer-refused}
use Rattle.chains.proofs.Laws.Theorem.{chains_promised}
use Rattle.chains.proofs.checking.check_chains.Goals as goal

pub returns-in_err-records-clause-answer : goal.returns-in_err-records-clause-answer
returns-in_err-records-clause-answer c =
    let p = err_from_is_err_and c.from_residual.result c.from_residual.ensures.1 in
    rw (p.1, p.2, c.in_err-records.ensures.unequal.0) (answer-sizes _ _ _ _ _ c.in_err-records.ensures.unequal.1)

pub returns-in_err-table-clause-answer : goal.returns-in_err-table-clause-answer
returns-in_err-table-clause-answer c =
    let p = err_from_is_err_and c.from_residual-in_err-table.result c.from_residual-in_err-table.ensures.1 in
    let r = c.in_ok-records.records in
    let f = c.in_ok-records.ensures.these in
    rw (p.1, p.2, c.in_err-table.ensures.0) (answer-empty _ _ _ _ _ (rw (f.0, f.1, f.2, f.3) at r.sizes) c.in_err-table.ensures.1)

pub returns-in_err-judge-clause-answer : goal.returns-in_err-judge-clause-answer
returns-in_err-judge-clause-answer c =
    let p = err_from_is_err_and c.from_residual-in_err-judge.result c.from_residual-in_err-judge.ensures.1 in
    let r = c.in_ok-records.records in
    let f = c.in_ok-records.ensures.these in
    rw (p.1, p.2, ← c.in_ok-table.ensures, ← f.0, ← f.1, ← f.2, ← f.3) (answer-refused _ _ _ _ _ (verdict-judged _ _ _ _ _ r.sizes (omega (arith, c.in_ok-table.table.counted)) c.judge.ensures) c.in_err-judge.was)

pub returns : goal.returns
returns c =
    let r = c.in_ok-records.records in
    let f = c.in_ok-records.ensures.these in
    let days = answer-days _ _ _ _ _ (verdict-judged _ _ _ _ _ r.sizes (omega (arith, c.in_ok-table.table.counted)) c.judge.ensures) c.in_ok-table.table.counted c.in_ok-judge.was in
    let e : c.in_ok-table.table.days + 1 - 1 ≡ c.in_ok-table.table.days = omega arith in
    let whole = chains_promised _ _ _ _ _ (rw (e, c.in_ok-table.ensures, f.0, f.1, f.2, f.3) at days) in
    record { answer = whole.0; shown = whole.1 }
