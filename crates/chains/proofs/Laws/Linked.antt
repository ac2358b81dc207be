-- What fine verdicts say: sizes, an entry, each stage passed, and good heads and nexts, each in words of its own.
-- Assumes nothing.
use Rattle.std.specs.Prelude.{Ok, Err, ℕ, zero, suc, ◌<◌, ◌≡◌, refl, Bool, true, false, length}
use Rattle.std.proofs.Common.{sym, ap, ◌∙◌, true≢false, ⊎_elim, arith}
use Rattle.std.proofs.lemmas.Bool.{false≢true}
use mathlib.Core.List.Memᴰ
use mathlib.Core.List.{List, [], ◌∷◌, Memᴰ}
use Rattle.prelude.proofs.Laws.Choice.{lt_elim, eq_elim, lt_take, lt_skip, eq_take, eq_skip, b_take, b_skip, constructors_differ}
use Rattle.prelude.specs.Refusals.{bad_chain}
use Rattle.prelude.proofs.Laws.Refusals.{refused_not_fine}
use Rattle.prelude.specs.Verdicts.{in_turn}
use Rattle.prelude.proofs.Laws.Verdicts.{unless_bad_fine, and_then_fine_both, in-turn-fine-each}
use Rattle.chains.specs.Chains.{field_of, no_record, most_chain_records, sizes_ok, entries, days, head_at, head_before, head_bad, chain_at, next_bad, linked, entry_verdict, head_verdict, links_verdict, chains_judged, chains_verdict, chains_answered, chains_answer}
use Rattle.chains.specs.Stages.{EqualLengths, Linked, Passed}
use Rattle.prelude.specs.Verdicts.{Verdict}

pub sizes_ok_equal_lengths : (previous next kind minute : List ℕ) {v : Bool} → v ≡ sizes_ok (length previous) (length next) (length kind) (length minute) → v ≡ true → EqualLengths previous next kind minute
unfolding sizes_ok
sizes_ok_equal_lengths previous next kind minute e f =
    let a = eq_take (length next) (length previous) _ _ false≢true (sym e ∙ f) in
    let b = eq_take (length kind) (length previous) _ _ false≢true a.1 in
    let c = eq_take (length minute) (length previous) _ _ false≢true b.1 in
    let d = lt_skip most_chain_records (length previous) _ _ false≢true c.1 in
    record { nexts = a.0; kinds = b.0; minutes = c.0; most = d.0 }

-- along fine links no next is bad
fine_links : (previous next rs : List ℕ) → linked previous next rs ≡ Ok tt → (r : ℕ) → Memᴰ r rs → next_bad previous next r ≡ false
unfolding linked
fine_links previous next [] e r m = absurd (Memᴰ.not-nil m)
fine_links previous next (x ∷ xs) e r m =
    let s = b_skip (next_bad previous next x) _ _ refused_not_fine e in
    ⊎_elim (λ (z : r ≡ x). ap (next_bad previous next) z ∙ s.0) (λ z. fine_links previous next xs s.1 r z) (Memᴰ.cases_cons m)

-- sizes, heads and links that were judged fine
pub judged_linked : (t previous next kind minute : List ℕ) (k : ℕ) {v w : Verdict} → k ≡ days t → EqualLengths previous next kind minute → v ≡ in_turn (head_verdict t previous) k 0 → v ≡ Ok tt → w ≡ in_turn (links_verdict t previous next) k 0 → w ≡ Ok tt → Linked t previous next
judged_linked t previous next kind minute k e s p f q g =
    record {
      equal = s.nexts;
      most = s.most;
      heads = λ i l. unless_bad_fine _ bad_chain i (in-turn-fine-each (head_verdict t previous) k 0 (sym p ∙ f) i (omega arith) (omega arith));
      nexts = λ i l. fine_links previous next (chain_at t next i) (in-turn-fine-each (links_verdict t previous next) k 0 (sym q ∙ g) i (omega arith) (omega arith));
    }

-- a fine verdict: all stages were passed
pub fine_passed : (t previous next kind minute : List ℕ) → chains_verdict t previous next kind minute ≡ Ok tt → Passed t previous next kind minute
unfolding chains_verdict chains_judged
fine_passed t previous next kind minute e =
    let a = b_take (sizes_ok (length previous) (length next) (length kind) (length minute)) _ _ refused_not_fine e in
    let b = eq_skip (entries t) 0 _ _ refused_not_fine a.1 in
    let c = and_then_fine_both (in_turn (entry_verdict t) (entries t) 0) _ b.1 in
    let d = and_then_fine_both (in_turn (head_verdict t previous) (days t) 0) _ c.1 in
    let g = and_then_fine_both (in_turn (links_verdict t previous next) (days t) 0) _ d.1 in
    record {
      sizes = sizes_ok_equal_lengths previous next kind minute refl a.0;
      some = omega (arith, b.0);
      entry-fine = c.0;
      head_fine = d.0;
      links-fine = g.0;
      order-fine = g.1;
    }

-- only a fine verdict is answered with days, as many as were counted
days_fine : (k : ℕ) (v : Verdict) (n : ℕ) → chains_answered k v ≡ Ok n → (v ≡ Ok tt) × (n ≡ k)
unfolding chains_answered
days_fine k (Ok tt) n e = (refl, cc)
days_fine k (Err x) n e = absurd (constructors_differ cc)

pub accepted_passed : (t previous next kind minute : List ℕ) (n : ℕ) → chains_answer t previous next kind minute ≡ Ok n → Passed t previous next kind minute × (n ≡ days t)
unfolding chains_answer
accepted_passed t previous next kind minute n e =
    let f = days_fine _ _ n e in
    (fine_passed t previous next kind minute f.0, f.1)

pub accepted-linked : (t previous next kind minute : List ℕ) (n : ℕ) → chains_answer t previous next kind minute ≡ Ok n → Linked t previous next
accepted-linked t previous next kind minute n e =
    let p = (accepted_passed t previous next kind minute n e).0 in
    judged_linked t previous next kind minute (days t) refl p.sizes refl p.head_fine refl p.links-fine

-- a good head: in range, with no previous, and no earlier entry's
pub head_bad-false-facts : (t previous : List ℕ) (i : ℕ) → head_bad t previous i ≡ false → (head_at t i < length previous) × (field_of previous (head_at t i) ≡ no_record) × (head_before t (head_at t i) i ≡ false)
unfolding head_bad
head_bad-false-facts t previous i e =
    let a = lt_take (head_at t i) (length previous) _ _ true≢false e in
    let b = eq_take (field_of previous (head_at t i)) no_record _ _ true≢false a.1 in
    (a.0, b.0, b.1)

pub head_before-false_apart : (t : List ℕ) (h i j : ℕ) → head_before t h i ≡ false → j < i → head_at t j ≡ h → ⊥
unfolding head_before
head_before-false_apart t h zero j e l q = absurd (omega arith)
head_before-false_apart t h (suc i) j e l q =
    let s = eq_skip (head_at t i) h _ _ true≢false e in
    lt_elim {X = Unit {0}} (λ _. ⊥) j i tt tt (λ a. head_before-false_apart t h i j s.1 a q)
    (λ a. let z : i ≡ j = omega arith in s.0 (ap (head_at t) z ∙ q))

-- a good next: none, or in range and named back
pub next_in_lem : (previous next : List ℕ) (r : ℕ) → next_bad previous next r ≡ false → (field_of next r ≡ no_record → ⊥) → (field_of next r < length previous) × (field_of previous (field_of next r) ≡ r)
unfolding next_bad
next_in_lem previous next r e n =
    eq_elim (λ x. x ≡ false → (field_of next r < length previous) × (field_of previous (field_of next r) ≡ r)) (field_of next r) no_record _ _ (λ z q. absurd (n z))
    (λ z q.
    let a = lt_take (field_of next r) (length previous) _ _ true≢false q in
    let b = eq_take (field_of previous (field_of next r)) r _ _ true≢false a.1 in
    (a.0, b.0))
    e
