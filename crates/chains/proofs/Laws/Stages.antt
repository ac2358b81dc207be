-- What the code has judged up to a refusal or the end, stage by stage, is what the whole is judged; the answer by the verdict.
-- Assumes nothing.
use Rattle.std.specs.Prelude.{Ok, Err, ℕ, ◌-◌, ◌<◌, ◌≡◌, refl, true, false, List, length}
use Rattle.std.proofs.Math.Path.{sym}
use Rattle.std.proofs.Common.{◌∙◌, arith}
use Rattle.prelude.proofs.Laws.Choice.{is_ge, is_eq, is_ne, is_true, is_false}
use Rattle.prelude.specs.Refusals.{refusal_at, bad_arrays, bad_day_table}
use Rattle.prelude.specs.Verdicts.{in_turn}
use Rattle.prelude.proofs.Laws.Verdicts.{and_then_fine, and_then-refused}
use Rattle.prelude.specs.declared.refusals.Refusal.{Refusal}
use Rattle.chains.specs.Chains.{sizes_ok, entries, days, entry_verdict, head_verdict, links_verdict, order_verdict, chains_judged, chains_verdict, chains_answered, chains_answer}
use Rattle.chains.specs.Stages.{EqualLengths, Passed}
use Rattle.prelude.specs.Verdicts.{Verdict}

-- table and records, with as many entries as were counted
module _ (t previous next kind minute : List ℕ) (count : ℕ) (e : count ≡ entries t) where
  pub stop-entries : {v : Verdict} {x : Refusal} → v ≡ in_turn (entry_verdict t) count 0 → v ≡ Err x → Err x ≡ chains_judged t previous next kind minute
  unfolding chains_judged
  stop-entries p f = sym (and_then-refused _ (rw e at p) f)

  module _ {a : Verdict} (p : a ≡ in_turn (entry_verdict t) count 0) (f : a ≡ Ok tt) where
    pub stop-heads : {v : Verdict} {x : Refusal} → v ≡ in_turn (head_verdict t previous) (count - 1) 0 → v ≡ Err x → Err x ≡ chains_judged t previous next kind minute
    unfolding chains_judged
    stop-heads q g = sym (and_then_fine _ (rw e at p) f ∙ and_then-refused _ (rw e at q) g)

    module _ {b : Verdict} (q : b ≡ in_turn (head_verdict t previous) (count - 1) 0) (g : b ≡ Ok tt) where
      pub stop-links : {v : Verdict} {x : Refusal} → v ≡ in_turn (links_verdict t previous next) (count - 1) 0 → v ≡ Err x → Err x ≡ chains_judged t previous next kind minute
      unfolding chains_judged
      stop-links r h = sym (and_then_fine _ (rw e at p) f ∙ and_then_fine _ (rw e at q) g ∙ and_then-refused _ (rw e at r) h)

      pub chains-judged-order : {v w : Verdict} → v ≡ in_turn (links_verdict t previous next) (count - 1) 0 → v ≡ Ok tt → w ≡ in_turn (order_verdict t next kind minute) (count - 1) 0 → w ≡ chains_judged t previous next kind minute
      unfolding chains_judged
      chains-judged-order r h s = (rw e at s) ∙ sym (and_then_fine _ (rw e at p) f ∙ and_then_fine _ (rw e at q) g ∙ and_then_fine _ (rw e at r) h)

-- the answer
module _ (t previous next kind minute : List ℕ) {v : Verdict} (e : v ≡ chains_verdict t previous next kind minute) where
  pub answer-days : {count : ℕ} → count ≡ entries t → v ≡ Ok tt → Ok (count - 1) ≡ chains_answer t previous next kind minute
  unfolding chains_answer chains_answered
  answer-days c f = rw (← e, f, c)

  pub answer-refused : {x : Refusal} → v ≡ Err x → Err x ≡ chains_answer t previous next kind minute
  unfolding chains_answer chains_answered
  answer-refused f = rw (← e, f)

-- the sizes are wrong, or right and the table is empty, or all else is judged
module _ (t previous next kind minute : List ℕ) where
  pub answer-sizes : sizes_ok (length previous) (length next) (length kind) (length minute) ≡ false → Err (refusal_at bad_arrays 0) ≡ chains_answer t previous next kind minute
  unfolding chains_verdict
  answer-sizes h = answer-refused t previous next kind minute (sym (is_false h _ _)) refl

  module _ (z : EqualLengths previous next kind minute) where
    right : sizes_ok (length previous) (length next) (length kind) (length minute) ≡ true
    unfolding sizes_ok
    right = is_eq z.nexts _ _ ∙ is_eq z.kinds _ _ ∙ is_eq z.minutes _ _ ∙ is_ge z.most _ _

    pub answer-empty : entries t ≡ 0 → Err (refusal_at bad_day_table 0) ≡ chains_answer t previous next kind minute
    unfolding chains_verdict
    answer-empty e = answer-refused t previous next kind minute (sym (is_true right _ _ ∙ is_eq e _ _)) refl

    pub verdict-judged : {v : Verdict} → 0 < entries t → v ≡ chains_judged t previous next kind minute → v ≡ chains_verdict t previous next kind minute
    unfolding chains_verdict
    verdict-judged some e = e ∙ sym (is_true right _ _ ∙ is_ne (λ n. omega (arith, n, some)) _ _)

-- all stages passed
pub passed_answer : (t previous next kind minute : List ℕ) → Passed t previous next kind minute → chains_answer t previous next kind minute ≡ Ok (days t)
passed_answer t previous next kind minute p =
    let j = chains-judged-order t previous next kind minute (entries t) refl refl p.entry-fine refl p.head_fine refl p.links-fine refl in
    sym (answer-days t previous next kind minute (verdict-judged t previous next kind minute p.sizes p.some j) refl p.order-fine)
