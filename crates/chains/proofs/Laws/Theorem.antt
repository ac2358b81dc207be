-- Accepted chains share no record, and each walk ends within the number of records: heads have no previous and nexts are
-- named back, so walks that meet are the same (`runs-meet`), and one that does not end would have too many records (`pigeonhole`).
-- Assumes nothing.
use Prim.Native.Nat.{ℕ, zero, suc, ◌<◌, ◌≤◌}
use Rattle.std.specs.Prelude.{Result, ◌≡◌, false, ◌⊎◌, length}
use Rattle.std.proofs.Common.{sym, ◌∙◌, arith}
use Rattle.std.proofs.Math.Logic.{inl, inr, ⊎_elim}
use mathlib.Core.List.{List, Memᴰ}
use Rattle.prelude.proofs.Laws.Choice.{eq_elim}
use Rattle.chains.specs.Chains.{field_of, no_record, head_at, days, chain_at, next_bad, chains_answer}
use Rattle.chains.specs.Shown.{after, Ends, Promised}
use Rattle.chains.proofs.Laws.Runs.{Back, runs-meet, pigeonhole}
use Rattle.chains.specs.Stages.{Linked, StepsIn, EndsIn, ChainsEnd}
use Rattle.chains.proofs.Laws.Linked.{accepted-linked, head_bad-false-facts, head_before-false_apart, next_in_lem}
use Rattle.chains.proofs.Laws.Steps.{steps-in-suc, walk-reached, reached-walk, walk_steps, run_of_after}
use Rattle.prelude.specs.declared.refusals.Refusal.{Refusal}

-- a walk that ends, and at a record with no next
record Ended (next : List ℕ) (r : ℕ) : Type 0 where
  walks : EndsIn next r (length next)
  last : field_of next (after next r walks.count) ≡ no_record

module _ (t previous next : List ℕ) (g : Linked t previous next) where
  -- the records along an entry's chain, as far as its steps stay in range
  module _ (i : ℕ) (l : i < days t) where
    abbrev h : ℕ
    h = head_at t i

    in_range : (j : ℕ) → StepsIn next h j → after next h j < length next
    unfolding after
    in_range zero s = omega (arith, (head_bad-false-facts t previous i (g.heads i l)).0, g.equal)
    in_range (suc j) s = s j (omega arith)

    good-next : (j : ℕ) → j < length next → StepsIn next h j → next_bad previous next (after next h j) ≡ false
    good-next j k s = g.nexts i l _ (reached-walk next (length next) h j k s)

    back : (k : ℕ) → k ≤ length next → StepsIn next h k → Back (field_of previous) (field_of next) no_record h k
    back k m s j a =
        let b : StepsIn next h j = λ x y. s x (omega arith) in
        let r = in_range j b in
        let n : field_of next (after next h j) ≡ no_record → ⊥ = λ e. omega (arith, e, s j a, g.most, g.equal) in
        let q = next_in_lem previous next (after next h j) (good-next j (omega arith) b) n in
        rw (run_of_after previous next h j) (q.1, λ e. omega (arith, e, r, g.most, g.equal))

    -- a walk has ended before step k, or all its steps up to there stay in range
    ended-or : (k : ℕ) → k ≤ length next → Ended next h ⊎ StepsIn next h k
    unfolding after
    ended-or zero m = inr (λ x y. absurd (omega arith))
    ended-or (suc k) m =
        ⊎_elim (λ (e : Ended next h). inl e)
        (λ (s : StepsIn next h k). eq_elim {X = Unit {0}} (λ _. Ended next h ⊎ StepsIn next h (suc k)) (field_of next (after next h k)) no_record tt tt
        (λ e. inl (record { last = e; walks = record { from = in_range 0 (λ x y. absurd (omega arith)); count = k; within = m; steps = s; out = omega (arith, e, g.most, g.equal) } }))
        (λ n. let v = (next_in_lem previous next (after next h k) (good-next k m s) n).0 in inr (steps-in-suc next h k s (omega (arith, v, g.equal)))))
        (ended-or k (omega arith))

  -- the walks of two entries at a record that both reach: their heads and steps are the same
  met : (i j a b : ℕ) → i < days t → j < days t → a ≤ length next → b ≤ length next → StepsIn next (head_at t i) a → StepsIn next (head_at t j) b → after next (head_at t i) a ≡ after next (head_at t j) b → (head_at t i ≡ head_at t j) × (a ≡ b)
  met i j a b l m x y s u e =
      runs-meet (field_of previous) (field_of next) no_record (head_at t i) (head_at t j) a b a b
      (head_bad-false-facts t previous i (g.heads i l)).1 (head_bad-false-facts t previous j (g.heads j m)).1
      (back i l a x s) (back j m b y u) (omega arith) (omega arith)
      (run_of_after previous next (head_at t i) a ∙ e ∙ sym (run_of_after previous next (head_at t j) b))

  apart : (i j r : ℕ) → i < j → j < days t → Memᴰ r (chain_at t next i) → Memᴰ r (chain_at t next j) → ⊥
  apart i j r l m p q =
      let x = walk-reached next (length next) (head_at t i) r p in
      let y = walk-reached next (length next) (head_at t j) r q in
      let z = met i j x.j y.j (omega arith) m (omega (arith, x.short)) (omega (arith, y.short)) x.steps y.steps (sym x.is ∙ y.is) in
      head_before-false_apart t (head_at t j) j i (head_bad-false-facts t previous j (g.heads j m)).2 l z.0

  ended : (i : ℕ) → i < days t → Ended next (head_at t i)
  ended i l =
      ⊎_elim (λ e. e)
      (λ (s : StepsIn next (head_at t i) (length next)).
      absurd (pigeonhole (length next) (after next (head_at t i)) (λ j a. in_range i l j (λ x y. s x (omega arith)))
      (λ a b c d e. omega (arith, (met i i a b l l (omega arith) d (λ x y. s x (omega arith)) (λ x y. s x (omega arith)) e).1))))
      (ended-or i l (length next) (omega arith))

  pub chains-end : ChainsEnd t (days t) next
  chains-end i l = (ended i l).walks

  ends : (i : ℕ) → i < days t → Ends next (head_at t i) (length next)
  ends i l =
      let e = ended i l in
      let w = e.walks in
      record {
        count = w.count;
        within = w.within;
        inside = in_range i l w.count w.steps;
        last = e.last;
        whole = walk_steps next (length next) (head_at t i) w.count w.within w.steps w.out;
      }

pub accepted_chains : (t previous next kind minute : List ℕ) → Promised t next (chains_answer t previous next kind minute)
accepted_chains t previous next kind minute n e =
    let g = accepted-linked t previous next kind minute n e in
    record { apart = apart t previous next g; ends = ends t previous next g }

-- so an answer that is as defined keeps what it promises
pub chains_promised : (t previous next kind minute : List ℕ) {answer : Result ℕ Refusal} → answer ≡ chains_answer t previous next kind minute → (answer ≡ chains_answer t previous next kind minute) × Promised t next answer
chains_promised t previous next kind minute e = (e, λ n f. accepted_chains t previous next kind minute n (sym e ∙ f))
