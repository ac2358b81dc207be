-- Marks stand for the earlier heads: a head judged by them is judged as defined, and fine heads are records.
-- Assumes nothing.
use Rattle.std.specs.Prelude.{Ok, ℕ, zero, suc, ◌+◌, ◌<◌, ◌≤◌, ◌≡◌, Bool, true, false, List, ◌∷◌, length, get_or, set, map, replicate}
use Rattle.std.proofs.Common.{sym, ap, ◌∙◌, refl, arith, add-one, length-set, get_or-set_same, get_or-set_other}
use Rattle.std.proofs.lemmas.List.{length-replicate, get_or-replicate, map-set}
use Rattle.std.proofs.Math.ListN.{get_or-map}
use Rattle.prelude.specs.Choice.{if_lt, if_eq, if_b}
use Rattle.prelude.specs.Bytes.{bit}
use Rattle.prelude.proofs.Laws.Choice.{is_eq, is_ne, is_lt, is_ge, lt_elim, eq_elim}
use Rattle.prelude.specs.Refusals.{bad_chain}
use Rattle.prelude.specs.Verdicts.{in_turn}
use Rattle.prelude.proofs.Laws.Verdicts.{unless_bad_fine, in-turn-fine-each}
use Rattle.chains.specs.Chains.{field_of, no_record, head_at, head_before, head_bad, head_verdict}
use Rattle.chains.specs.Stages.{HeadsIn}
use Rattle.chains.specs.Marks.{no_marks, marks, head_marked}
use Rattle.chains.proofs.Laws.Linked.{head_bad-false-facts}
use Rattle.prelude.specs.Verdicts.{Verdict}

pub marks-none : (n : ℕ) (t : List ℕ) {met : List ℕ} → met ≡ no_marks n → met ≡ marks n t 0
unfolding marks
marks-none n t e = e

pub marks_next : (n : ℕ) (t : List ℕ) (i : ℕ) {met : List ℕ} {h x : ℕ} → met ≡ marks n t i → h ≡ head_at t i → x ≡ 1 → set met h x ≡ marks n t (i + 1)
unfolding marks
marks_next n t i e d f = rw (e, d, f, add-one i)

length-marks : (n : ℕ) (t : List ℕ) (i : ℕ) → length (marks n t i) ≡ n
unfolding marks
length-marks n t zero = length-replicate {A = ℕ} n 0
length-marks n t (suc i) = length-set (marks n t i) (head_at t i) 1 ∙ length-marks n t i

-- a place is marked just where an earlier entry has that head
marked-before : (n : ℕ) (t : List ℕ) (h i : ℕ) → h < n → if_eq (get_or (marks n t i) h 0) 0 false true ≡ head_before t h i
unfolding marks head_before
marked-before n t h zero l = is_eq (get_or-replicate {A = ℕ} n h 0 0 l) _ _
marked-before n t h (suc i) l =
    eq_elim (λ b. if_eq (get_or (set (marks n t i) (head_at t i) 1) h 0) 0 false true ≡ b) (head_at t i) h true (head_before t h i)
    (λ e. rw e
    (let k : h < length (marks n t i) = omega (arith, length-marks n t i) in
    rw (get_or-set_same (marks n t i) h 1 0 k) (is_ne (λ z. omega arith) _ _)))
    (λ d. rw (get_or-set_other (marks n t i) (head_at t i) h 1 0 (λ e. d (sym e))) (marked-before n t h i l))

by_marks : (n : ℕ) (t previous : List ℕ) (i : ℕ) → length previous ≤ n → head_marked previous (marks n t i) (head_at t i) ≡ head_bad t previous i
unfolding head_marked head_bad
by_marks n t previous i l =
    lt_elim
    (λ b. if_lt (head_at t i) (length previous) (if_eq (field_of previous (head_at t i)) no_record (if_eq (get_or (marks n t i) (head_at t i) 0) 0 false true) true) true ≡ b)
    (head_at t i) (length previous) _ _
    (λ h. is_lt h _ _ ∙ ap (λ (b : Bool). if_eq (field_of previous (head_at t i)) no_record b true) (marked-before n t (head_at t i) i (omega arith)))
    (λ h. is_ge h _ _)

pub marked_bad : (n : ℕ) (t previous : List ℕ) (i : ℕ) {met : List ℕ} {h : ℕ} {v : Bool} → length previous ≤ n → met ≡ marks n t i → h ≡ head_at t i → v ≡ head_marked previous met h → v ≡ head_bad t previous i
marked_bad n t previous i l e d q = q ∙ rw (e, d) (by_marks n t previous i l)

-- fine heads are records
pub heads_in : (t previous : List ℕ) (k : ℕ) {v : Verdict} → v ≡ in_turn (head_verdict t previous) k 0 → v ≡ Ok tt → HeadsIn t k (length previous)
heads_in t previous k e f i l =
    (head_bad-false-facts t previous i (unless_bad_fine _ bad_chain i (in-turn-fine-each (head_verdict t previous) k 0 (sym e ∙ f) i (omega arith) (omega arith)))).0

-- the code's marks are booleans, each a number as `bit` has it: none set, one more set, and one read
none-set : (n : ℕ) → map bit (replicate n false) ≡ no_marks n
unfolding bit if_b
none-set zero = refl
none-set (suc n) = ap (λ (xs : List ℕ). 0 ∷ xs) (none-set n)

pub none-met : (n : ℕ) (t : List ℕ) → map bit (replicate n false) ≡ marks n t 0
none-met n t = marks-none n t (none-set n)

pub mark-met : (n : ℕ) (t : List ℕ) (i : ℕ) (met : List Bool) {h : ℕ} → map bit met ≡ marks n t i → h ≡ head_at t i → map bit (set met h true) ≡ marks n t (i + 1)
unfolding bit if_b
mark-met n t i met e d = map-set bit met _ true ∙ marks_next n t i e d refl

bit-read : (b : Bool) → if_eq (bit b) 0 false true ≡ b
unfolding bit if_b if_eq
bit-read true = refl
bit-read false = refl

pub mark-read : (met : List Bool) (h : ℕ) {v : Bool} → get_or met h false ≡ v → v ≡ if_eq (get_or (map bit met) h 0) 0 false true
unfolding bit if_b
mark-read met h e = sym (ap (λ (x : ℕ). if_eq x 0 false true) (get_or-map bit met h false) ∙ bit-read (get_or met h false) ∙ e)
