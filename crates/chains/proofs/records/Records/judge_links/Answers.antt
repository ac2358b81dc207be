-- The chain is linked as what is left of it from here on.
use Rattle.std.proofs.Common.{arith, sym, length, ◌∙◌, ◌-◌, ◌+◌, ◌≡◌}
use Rattle.chains.specs.Chains.{field_of}
use Rattle.chains.proofs.Laws.Walks.{links-bad, links-on, links_end, links-out, next-none, next-out, next-other, next-back}
use Rattle.chains.proofs.records.Records.judge_links.Goals as goal
use Rattle.chains.proofs.records.Records.judge_links.Goals.{in_default-via-in-Some+else-from-here, in_default-via-in-None+else-after-from}

pub returns-in-None : goal.returns-in-None
returns-in-None c = sym (c.loop.invariant.1 ∙ links_end _ _ _ _ (omega arith) (next-none _ _ _ (omega arith)) (omega (arith, c.in-None.ensures.lookup.3)))

pub returns-in_default : goal.returns-in_default
returns-in_default c =
    rw c.at.ensures (sym (c.loop.invariant.1 ∙ links-bad _ _ _ _ (omega arith) (elim c.in_default.branch [
      | in_default-via-in-Some+else-from-here w ↦ next-other _ _ _ (λ e. omega (arith, w.in-Some.ensures.lookup.3.0)) (omega (arith, w.in-Some.ensures.lookup.3.0)) (λ e. let f : field_of c.args.self.now.previous.now c.from-after.result ≡ c.loop.here = rw c.from-after.ensures e in omega (arith, w.in-Some.ensures.lookup.3.1 0))
      | in_default-via-in-None+else-after-from w ↦ next-out _ _ _ (λ e. omega arith) (omega (arith, w.in-None.ensures.lookup.3))
    ])))

pub loop-preserved : goal.loop-preserved
loop-preserved c =
    let s = c.in-Some.ensures.lookup.3 in
    let back : field_of c.args.self.now.previous.now (field_of c.args.self.now.next.now c.loop.here) ≡ c.loop.here = rw (← c.from-after.ensures) (omega (arith, s.1 0)) in
    let e : length c.args.self.now.next.now - c.loop.counter - 1 ≡ length c.args.self.now.next.now - (c.loop.counter + 1) = omega arith in
    let on = links-on c.args.self.now.previous.now c.args.self.now.next.now (length c.args.self.now.next.now - c.loop.counter) c.loop.here (omega arith) (next-back _ _ _ (omega (arith, s.0)) back) (omega (arith, s.0)) in
    (omega (arith, s.0), rw c.from-after.ensures (c.loop.invariant.1 ∙ rw e at on))

pub returns : goal.returns
returns c = sym (c.loop.invariant.1 ∙ links-out _ _ _ _ (omega arith))
