-- `put_hits` meets its contract: the days behind have the piece, those ahead not yet, and none between is missed.
use Rattle.std.proofs.Common.{Bool, ap, arith, get_or, length, refl, sym, ℕ, ◌+◌, ◌-◌, ◌∙◌, ◌≡◌}
use Rattle.prelude.specs.Splice.{splice}
use Rattle.occurrences.specs.Rules.{rule_shows}
use Rattle.occurrences.proofs.Laws.After.{next_ahead}
use Rattle.calendar_writer.specs.Scatter.{scatter}
use Rattle.calendar_writer.proofs.Laws.Scatter.{added_none, added-hit, scatter-end, scatter-hit, scatter-skip, scatter-first}
use Rattle.export.proofs.scattering.put_hits.Goals as goal

pub loop-j-init : goal.loop-j-init
loop-j-init c =
    let n = next_ahead c.args.span.now.choice c.args.r c.on_to-start.ensures c.next_from-j.ensures in (
      scatter-first _ c.args.piece.now c.args.places.now c.args.out.now n.high n.none,
      added_none _ (λ k h. n.none k (omega arith) h),
      refl,
      n.high,
      n.hit,
    )

pub loop-j-preserved : goal.loop-j-preserved
loop-j-preserved c =
    let p : ℕ → Bool = λ i. rule_shows c.args.span.now.choice c.args.r (get_or c.args.span.now.days.now i 0) in
    let hit = c.loop-j.invariant.4 (omega arith) in
    let here : c.copy_in.new.dst ≡ splice c.loop-j.out (get_or c.args.places.now c.loop-j.j 0) c.args.piece.now = c.copy_in.ensures.put ∙ ap (λ (q : ℕ). splice c.loop-j.out q c.args.piece.now) (c.loop-j.invariant.1.ahead c.loop-j.j (omega arith)) in (
      c.loop-j.invariant.0
          ∙ scatter-hit p c.args.piece.now c.args.places.now c.loop-j.out (omega arith) hit
          ∙ ap (scatter (length c.args.span.now.days.now - (c.loop-j.j + 1)) p c.args.piece.now c.args.places.now (c.loop-j.j + 1)) (sym here)
          ∙ scatter-skip p c.args.piece.now c.args.places.now c.copy_in.new.dst (omega (arith, c.next_after-j.ensures.low)) c.next_after-j.ensures.high c.next_after-j.ensures.none,
      added-hit p c.loop-j.invariant.1 (omega (arith, c.requires.places_len)) hit c.copy_in.ensures.next (omega (arith, c.next_after-j.ensures.low)) c.next_after-j.ensures.none,
      c.copy_in.auto.dst ∙ c.loop-j.invariant.2,
      c.next_after-j.ensures.high,
      c.next_after-j.ensures.hit,
    )

pub returns : goal.returns
returns c =
    let e : c.loop-j.j ≡ length c.args.span.now.days.now = omega arith in
    let z : length c.args.span.now.days.now - c.loop-j.j ≡ 0 = omega arith in
    record { added = rw (← e) c.loop-j.invariant.1; out_after = sym (c.loop-j.invariant.0 ∙ rw z (scatter-end _ c.args.piece.now c.args.places.now c.loop-j.j c.loop-j.out)) }
