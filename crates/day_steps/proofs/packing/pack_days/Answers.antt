-- `pack_days` meets its contract: so far each day stands at its place, and g is the next one's facts.
use Rattle.std.proofs.Common.{ap, arith, get_or, get_or-set_other, get_or-set_same, length-set, set, suc, ◌+◌, ◌∙◌, ◌≡◌}
use Rattle.prelude.proofs.Laws.Choice.{lt_elim}
use Rattle.days.specs.Facts.{facts_of, next_facts}
use Rattle.days.proofs.Laws.Facts.{facts_next}
use Rattle.day_steps.specs.Codes.{day_code}
use Rattle.day_steps.proofs.Laws.Codes.{facts_known}
use Rattle.day_steps.proofs.packing.pack_days.Goals as goal

pub day_code-requires : goal.day_code-requires
day_code-requires c = rw (c.loop-day.invariant.1 (omega arith)) (facts_known _ (omega (arith, c.requires.days_bound)))

pub loop-day-preserved : goal.loop-day-preserved
loop-day-preserved c =
    let long = length-set c.loop-day.day-items c.loop-day.day-index c.day_code.result in
    let here : c.loop-day.g ≡ facts_of (c.args.f.day.0 + c.loop-day.day-index) = c.loop-day.invariant.1 (omega arith) in (
      long ∙ c.loop-day.invariant.0,
      λ h. c.next_facts-g.ensures ∙ ap next_facts here ∙ facts_next (c.args.f.day.0 + c.loop-day.day-index) (omega (arith, c.requires.days_bound)) ∙ ap facts_of (let e : suc (c.args.f.day.0 + c.loop-day.day-index) ≡ c.args.f.day.0 + (c.loop-day.day-index + 1) = omega arith in e),
      λ j h.
          lt_elim {X = Unit {0}} (λ _. get_or (set c.loop-day.day-items c.loop-day.day-index c.day_code.result) j 0 ≡ day_code (facts_of (c.args.f.day.0 + j))) j c.loop-day.day-index tt tt
          (λ i. get_or-set_other c.loop-day.day-items c.loop-day.day-index j _ 0 (λ e. omega arith) ∙ c.loop-day.invariant.2 j i)
          (λ i. let e : j ≡ c.loop-day.day-index = omega arith in rw e (get_or-set_same c.loop-day.day-items c.loop-day.day-index _ 0 (omega arith) ∙ c.day_code.ensures ∙ ap day_code here)),
    )
