-- `text_ends` meets its contract: a long text is scanned up to the zero that was seen at its end.
use Rattle.std.proofs.Common.{ap, arith, suc, sym, ℕ, ◌+◌, ◌-◌, ◌∙◌, ◌≡◌}
use Rattle.prelude.specs.Bytes.{byte}
use Rattle.calendar.specs.Lists.{first_zero}
use Rattle.calendar.proofs.Laws.Lists.{ZeroIn, zero_in, zero_more, test_is}
use Rattle.calendar.proofs.lists.text_ends.Goals as goal

pub returns-then-file-last-eq0 : goal.returns-then-file-last-eq0
returns-then-file-last-eq0 c =
    let n = c.args.at + c.args.size - 1 - (c.args.at + 4) in
    let k : c.args.size - 4 ≡ suc n = omega arith in
    let e : c.args.at + 4 + n ≡ c.args.at + c.args.size - 1 = omega arith in
    let same : first_zero (c.args.size - 4) c.args.file.now (c.args.at + 4) ≡ c.zero_from.result = rw k (zero_more n c.args.file.now (c.args.at + 4) (ap (λ (j : ℕ). byte c.args.file.now j) e ∙ c.if-file-last-eq0.true)) ∙ sym c.zero_from.ensures in
    test_is _ _ _ _ (λ e. omega (arith, same)) (λ e. omega (arith, same))

pub returns-else-file-last-eq0 : goal.returns-else-file-last-eq0
returns-else-file-last-eq0 c =
    let z : ZeroIn (c.args.size - 4) c.args.file.now (c.args.at + 4) (first_zero (c.args.size - 4) c.args.file.now (c.args.at + 4)) = zero_in _ _ _ in
    test_is _ _ _ _
    (λ e. absurd (c.if-file-last-eq0.false e))
    (λ e. ap (λ (k : ℕ). byte c.args.file.now k) (omega arith) ∙ z.found (omega arith))
