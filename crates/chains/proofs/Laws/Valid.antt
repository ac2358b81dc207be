-- Accepted are just the chains that R-2's sentence names: each test of the judgement, fine, says what the sentence says.
-- Assumes nothing.
use Rattle.std.specs.Prelude.{Ok, ℕ, zero, suc, ◌+◌, ◌-◌, ◌*◌, ◌<◌, ◌≤◌, ◌≡◌, refl, true, false, length}
use Rattle.std.proofs.Common.{sym, ap, ◌∙◌, arith}
use Rattle.std.proofs.Math.Bool.{true≢false}
use mathlib.Core.List.{List, [], ◌∷◌, Memᴰ}
use Rattle.prelude.proofs.Laws.Choice.{is_lt, is_ge, is_eq, is_ne, is_true, is_false, eq_elim, lt_skip, eq_take, eq_skip, b_take}
use Rattle.prelude.specs.Refusals.{bad_day_table, bad_chain}
use Rattle.prelude.proofs.Laws.Verdicts.{unless_bad_fine, unless_bad-false, in-turn-fine-each, each-fine-in-turn}
use Rattle.chains.specs.Chains.{field_of, no_record, entries, days, head_at, date_before, entry_bad, head_before, head_bad, chain_at, next_bad, linked, ordered, entry_verdict, head_verdict, links_verdict, order_verdict, chains_answer}
use Rattle.chains.specs.Stages.{Passed, Linked}
use Rattle.chains.specs.Valid.{ValidChains}
use Rattle.chains.proofs.Laws.Order.{chain-sorted, sorted-chain}
use Rattle.chains.proofs.Laws.Linked.{accepted_passed, judged_linked, head_bad-false-facts, head_before-false_apart, next_in_lem}
use Rattle.chains.proofs.Laws.Stages.{passed_answer}
use Rattle.chains.proofs.Laws.Walks.{next-none, next-back}

-- an entry before the last, and the last
module _ (t : List ℕ) (i : ℕ) where
  good-day : entry_bad t i ≡ false → i < days t → (head_at t i ≡ no_record → ⊥) × (0 < i → date_before t (i - 1) i ≡ true)
  unfolding entry_bad
  good-day e l =
      let a = lt_skip (length t) (5 * i + 5) _ _ true≢false e in
      let b = eq_skip (head_at t i) no_record _ _ true≢false (sym (is_ne (λ z. omega arith) _ _) ∙ a.1) in
      (b.0, λ h. (b_take (date_before t (i - 1) i) _ _ true≢false (sym (is_ne (λ z. omega arith) _ _) ∙ b.1)).0)

  good-last : entry_bad t i ≡ false → i + 1 ≡ entries t → (5 * i + 5 ≤ length t) × (head_at t i ≡ no_record)
  unfolding entry_bad
  good-last e l =
      let a = lt_skip (length t) (5 * i + 5) _ _ true≢false e in
      (a.0, (eq_take (head_at t i) no_record _ _ true≢false (sym (is_eq l _ _) ∙ a.1)).0)

  day-good : length t ≡ 5 * days t + 5 → i < days t → (head_at t i ≡ no_record → ⊥) → (0 < i → date_before t (i - 1) i ≡ true) → entry_bad t i ≡ false
  unfolding entry_bad
  day-good w l n d =
      is_ge (omega arith) _ _ ∙ is_ne (λ z. omega arith) _ _ ∙ is_ne n _ _
      ∙ eq_elim (λ b. b ≡ false) i 0 _ _ (λ _. refl) (λ z. is_true (d (omega (arith, z))) _ _)

  last-good : length t ≡ 5 * days t + 5 → i ≡ days t → head_at t i ≡ no_record → entry_bad t i ≡ false
  unfolding entry_bad
  last-good w l h = is_ge (omega arith) _ _ ∙ is_eq (omega arith) _ _ ∙ is_eq h _ _

-- heads
not_before : (t : List ℕ) (h i : ℕ) → ((j : ℕ) → j < i → head_at t j ≡ h → ⊥) → head_before t h i ≡ false
unfolding head_before
not_before t h zero n = refl
not_before t h (suc i) n = is_ne (n i (omega arith)) _ _ ∙ not_before t h i (λ j l. n j (omega arith))

head_good : (t previous : List ℕ) (i : ℕ) → (head_at t i < length previous) × (field_of previous (head_at t i) ≡ no_record) → ((j : ℕ) → j < i → head_at t j ≡ head_at t i → ⊥) → head_bad t previous i ≡ false
unfolding head_bad
head_good t previous i h n = is_lt h.0 _ _ ∙ is_eq h.1 _ _ ∙ not_before t (head_at t i) i n

-- links
next_good : (previous next : List ℕ) (r : ℕ) → ((field_of next r ≡ no_record → ⊥) → (field_of next r < length previous) × (field_of previous (field_of next r) ≡ r)) → next_bad previous next r ≡ false
next_good previous next r f =
    eq_elim {X = Unit {0}} (λ _. next_bad previous next r ≡ false) (field_of next r) no_record tt tt
    (λ e. next-none previous next r e) (λ n. next-back previous next r (f n).0 (f n).1)

good_links : (previous next rs : List ℕ) → ((r : ℕ) → Memᴰ r rs → next_bad previous next r ≡ false) → linked previous next rs ≡ Ok tt
unfolding linked
good_links previous next [] f = refl
good_links previous next (r ∷ rs) f = is_false (f r (Memᴰ.head refl)) _ _ ∙ good_links previous next rs (λ x m. f x (Memᴰ.tail m))

module _ (t previous next kind minute : List ℕ) where
  passed-valid : Passed t previous next kind minute → ValidChains t previous next kind minute
  passed-valid p =
      record {
        sizes = p.sizes;
        whole = omega (arith, p.some, last.0);
        last = last.1;
        only = λ i l. (good-day t i (good i (omega arith)) l).0;
        dates = λ i l. let e : i + 1 - 1 ≡ i = omega arith in rw e at ((good-day t (i + 1) (good (i + 1) (omega arith)) (omega arith)).1 (omega arith));
        heads = λ i l. let h = head_bad-false-facts t previous i (head i l) in (h.0, h.1);
        apart = λ i j l m e. head_before-false_apart t (head_at t j) j i (head_bad-false-facts t previous j (head j m)).2 l e;
        links = λ i r l m n. next_in_lem previous next r (g.nexts i l r m) n;
        values = λ i r l m. (chain-sorted kind minute (chain_at t next i) (order i l)).0 r m;
        order = λ i l. (chain-sorted kind minute (chain_at t next i) (order i l)).1;
      }
    where
      good : (i : ℕ) → i < entries t → entry_bad t i ≡ false
      good i l = unless_bad_fine _ bad_day_table i (in-turn-fine-each (entry_verdict t) (entries t) 0 p.entry-fine i (omega arith) (omega arith))

      last : (5 * days t + 5 ≤ length t) × (head_at t (days t) ≡ no_record)
      last = good-last t (days t) (good (days t) (omega (arith, p.some))) (omega (arith, p.some))

      head : (i : ℕ) → i < days t → head_bad t previous i ≡ false
      head i l = unless_bad_fine _ bad_chain i (in-turn-fine-each (head_verdict t previous) (days t) 0 p.head_fine i (omega arith) (omega arith))

      order : (i : ℕ) → i < days t → ordered kind minute (chain_at t next i) ≡ Ok tt
      order i l = in-turn-fine-each (order_verdict t next kind minute) (days t) 0 p.order-fine i (omega arith) (omega arith)

      g : Linked t previous next
      g = judged_linked t previous next kind minute (days t) refl p.sizes refl p.head_fine refl p.links-fine

  valid-passed : ValidChains t previous next kind minute → Passed t previous next kind minute
  valid-passed v =
      record {
        sizes = v.sizes;
        some = omega (arith, v.whole);
        entry-fine = each-fine-in-turn (entry_verdict t) (entries t) 0 (λ i a b. unless_bad-false bad_day_table i (entry i (omega arith)));
        head_fine = each-fine-in-turn (head_verdict t previous) (days t) 0 (λ i a b. unless_bad-false bad_chain i (head i (omega arith)));
        links-fine = each-fine-in-turn (links_verdict t previous next) (days t) 0 (λ i a b. good_links previous next (chain_at t next i) (λ r m. next_good previous next r (v.links i r (omega arith) m)));
        order-fine = each-fine-in-turn (order_verdict t next kind minute) (days t) 0 (λ i a b. sorted-chain kind minute (chain_at t next i) (λ r m. v.values i r (omega arith) m) (v.order i (omega arith)));
      }
    where
      rises : (i : ℕ) → i < days t → 0 < i → date_before t (i - 1) i ≡ true
      rises i l h = let e : i - 1 + 1 ≡ i = omega arith in rw e at (v.dates (i - 1) (omega arith))

      entry : (i : ℕ) → i < entries t → entry_bad t i ≡ false
      entry i l =
          eq_elim {X = Unit {0}} (λ _. entry_bad t i ≡ false) i (days t) tt tt
          (λ e. last-good t i v.whole e (ap (head_at t) e ∙ v.last))
          (λ n. let k : i < days t = omega (arith, n) in day-good t i v.whole k (v.only i k) (rises i k))

      head : (i : ℕ) → i < days t → head_bad t previous i ≡ false
      head i l = head_good t previous i (v.heads i l) (λ j m. v.apart j i m l)

  -- "Accept exactly when": an answer that accepts, and chains that are as the sentence says
  pub accepted-valid : (n : ℕ) → chains_answer t previous next kind minute ≡ Ok n → ValidChains t previous next kind minute × (n ≡ days t)
  accepted-valid n e =
      let p = accepted_passed t previous next kind minute n e in
      (passed-valid p.0, p.1)

  pub valid-accepted : ValidChains t previous next kind minute → chains_answer t previous next kind minute ≡ Ok (days t)
  valid-accepted v = passed_answer t previous next kind minute (valid-passed v)
