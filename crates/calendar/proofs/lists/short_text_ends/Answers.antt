-- `short_text_ends` meets its contract. The loop keeps: the first zero after the minute is the first from byte k on.
use Rattle.std.proofs.Common.{ap, arith, refl, suc, ℕ, ◌+◌, ◌-◌, ◌∙◌, ◌≡◌}
use Rattle.prelude.proofs.Laws.Choice.{eq_no}
use Rattle.prelude.specs.Bytes.{byte}
use Rattle.calendar.specs.Lists.{first_zero}
use Rattle.calendar.proofs.Laws.Lists.{ZeroIn, zero_in, zero_met, zero-later, test_is}
use Rattle.calendar.proofs.lists.short_text_ends.Goals as goal

pub returns-then-file-at-eq0 : goal.returns-then-file-at-eq0
returns-then-file-at-eq0 c =
    let z = c.loop-k.invariant ∙ zero_met _ _ _ c.if-file-at-eq0.true in
    eq_no _ _ _ (λ e. omega arith) refl

pub loop-k-preserved : goal.loop-k-preserved
loop-k-preserved c =
    let n : c.args.size - c.loop-k.k ≡ suc (c.args.size - (c.loop-k.k + 1)) = omega arith in
    let e : c.args.at + (c.loop-k.k + 1) ≡ c.args.at + c.loop-k.k + 1 = omega arith in
    c.loop-k.invariant ∙ rw (n, e) (zero-later _ c.args.file.now (c.args.at + c.loop-k.k) c.if-file-at-eq0.false)

pub returns : goal.returns
returns c =
    let f = c.args.file.now in
    let z : ZeroIn (c.args.size - c.loop-k.k) f (c.args.at + c.loop-k.k) (first_zero (c.args.size - c.loop-k.k) f (c.args.at + c.loop-k.k)) = zero_in _ _ _ in
    test_is _ _ _ _
    (λ e. let m = c.loop-k.invariant ∙ zero_met _ f _ (ap (λ (j : ℕ). byte f j) (omega arith) ∙ e) in omega arith)
    (λ e. ap (λ (j : ℕ). byte f j) (omega (arith, c.loop-k.invariant)) ∙ z.found (omega (arith, c.loop-k.invariant)))
