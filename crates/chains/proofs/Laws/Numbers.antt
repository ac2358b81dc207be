-- A refusal has one of R-2's numbers, 30 to 33; so an answer whose number is 0 accepts.
-- Assumes nothing.
use Rattle.std.specs.Prelude.{Ok, Err, ℕ, zero, suc, ◌≤◌, ◌≡◌, Bool, List, [], ◌∷◌}
use Rattle.std.proofs.Common.{sym, ap, arith}
use Rattle.prelude.specs.Choice.{if_b}
use Rattle.prelude.proofs.Laws.Choice.{b_elim, eq_elim, constructors_differ}
use Rattle.prelude.specs.Refusals.{bad_arrays, bad_day_table, bad_chain, bad_chain_order}
use Rattle.prelude.proofs.Laws.Refusals.{refused_not_fine}
use Rattle.prelude.specs.Verdicts.{refused, unless_bad, and_then, in_turn}
use Rattle.prelude.specs.declared.refusals.Refusal.{Refusal}
use Rattle.chains.specs.Chains.{entries, days, entry_bad, head_bad, chain_at, linked, ordered_after, ordered, entry_verdict, head_verdict, links_verdict, order_verdict, chains_judged, chains_verdict, chains_answered, chains_answer}
use Rattle.prelude.specs.Verdicts.{Verdict}

abbrev Numbered : Verdict → Type 0
Numbered v = (e : Refusal) → v ≡ Err e → (30 ≤ e.number) × (e.number ≤ 33)

abbrev number_of : Verdict → ℕ
number_of (Ok tt) = 0
number_of (Err e) = e.number

fine_numbered : Numbered (Ok tt)
fine_numbered e h = absurd (refused_not_fine (sym h))

refused-numbered : (n p : ℕ) → 30 ≤ n → n ≤ 33 → Numbered (refused n p)
refused-numbered n p l m e h = let q : n ≡ e.number = ap number_of h in (omega arith, omega arith)

choice_numbered : (b : Bool) {v w : Verdict} → Numbered v → Numbered w → Numbered (if_b b v w)
choice_numbered b {v} {w} p q = b_elim Numbered b v w (λ _. p) (λ _. q)

then_numbered : (v w : Verdict) → Numbered v → Numbered w → Numbered (and_then v w)
unfolding and_then
then_numbered (Ok tt) w p q = q
then_numbered (Err e) w p q = p

turns_numbered : (judged : ℕ → Verdict) (k i : ℕ) → ((j : ℕ) → Numbered (judged j)) → Numbered (in_turn judged k i)
unfolding in_turn
turns_numbered judged zero i p = fine_numbered
turns_numbered judged (suc k) i p = then_numbered (judged i) (in_turn judged k (suc i)) (p i) (turns_numbered judged k (suc i) p)

unless_numbered : (b : Bool) (n p : ℕ) → 30 ≤ n → n ≤ 33 → Numbered (unless_bad b n p)
unfolding unless_bad
unless_numbered b n p l m = choice_numbered b (refused-numbered n p l m) fine_numbered

linked-numbered : (previous next rs : List ℕ) → Numbered (linked previous next rs)
unfolding linked
linked-numbered previous next [] = fine_numbered
linked-numbered previous next (r ∷ rs) = choice_numbered _ (refused-numbered bad_chain r (omega arith) (omega arith)) (linked-numbered previous next rs)

after-numbered : (kind minute : List ℕ) (q : ℕ) (rs : List ℕ) → Numbered (ordered_after kind minute q rs)
unfolding ordered_after
after-numbered kind minute q [] = fine_numbered
after-numbered kind minute q (r ∷ rs) =
    let n = refused-numbered bad_chain_order r (omega arith) (omega arith) in
    choice_numbered _ n (choice_numbered _ n (after-numbered kind minute r rs))

ordered-numbered : (kind minute rs : List ℕ) → Numbered (ordered kind minute rs)
unfolding ordered
ordered-numbered kind minute [] = fine_numbered
ordered-numbered kind minute (r ∷ rs) = choice_numbered _ (refused-numbered bad_chain_order r (omega arith) (omega arith)) (after-numbered kind minute r rs)

judged_numbered : (t previous next kind minute : List ℕ) → Numbered (chains_judged t previous next kind minute)
unfolding chains_judged
judged_numbered t previous next kind minute =
    then_numbered _ _ (turns_numbered (entry_verdict t) (entries t) 0 (λ i. unless_numbered (entry_bad t i) bad_day_table i (omega arith) (omega arith)))
    (then_numbered _ _ (turns_numbered (head_verdict t previous) (days t) 0 (λ i. unless_numbered (head_bad t previous i) bad_chain i (omega arith) (omega arith)))
    (then_numbered _ _ (turns_numbered (links_verdict t previous next) (days t) 0 (λ i. linked-numbered previous next (chain_at t next i)))
    (turns_numbered (order_verdict t next kind minute) (days t) 0 (λ i. ordered-numbered kind minute (chain_at t next i)))))

verdict_numbered : (t previous next kind minute : List ℕ) → Numbered (chains_verdict t previous next kind minute)
unfolding chains_verdict
verdict_numbered t previous next kind minute =
    choice_numbered _
    (eq_elim Numbered (entries t) 0 _ _ (λ _. refused-numbered bad_day_table 0 (omega arith) (omega arith)) (λ _. judged_numbered t previous next kind minute))
    (refused-numbered bad_arrays 0 (omega arith) (omega arith))

answered_refused : (n : ℕ) (v : Verdict) (e : Refusal) → chains_answered n v ≡ Err e → v ≡ Err e
unfolding chains_answered
answered_refused n (Ok tt) e h = absurd (constructors_differ cc)
answered_refused n (Err x) e h = cc

pub refusal_number : (t previous next kind minute : List ℕ) (e : Refusal) → chains_answer t previous next kind minute ≡ Err e → (30 ≤ e.number) × (e.number ≤ 33)
unfolding chains_answer
refusal_number t previous next kind minute e h = verdict_numbered t previous next kind minute e (answered_refused _ _ e h)
