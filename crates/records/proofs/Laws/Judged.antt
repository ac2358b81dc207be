-- What an accepted body promises: its lengths, its record, its text and note.
-- Assumes nothing.
use Rattle.std.specs.Prelude.{Ok, ℕ, ◌+◌, ◌<◌, ◌≤◌, ◌≡◌, refl, true, false, List, length, drop}
use Rattle.std.proofs.Common.{◌∙◌, arith, length-drop, length-take-le}
use Rattle.std.proofs.lemmas.Bool.{false≢true}
use Rattle.prelude.proofs.Laws.Choice.{is_lt, is_ge, eq_elim, lt_elim, lt_skip, b_take}
use Rattle.prelude.proofs.Laws.Results.{err_not_ok}
use Rattle.texts.specs.Notes.{no_zero, note_ok, most_text}
use Rattle.records.specs.Fields.{record_of, fixed_of, text_length, note_length, body_text, body_note}
use Rattle.records.specs.Ranges.{record_ok}
use Rattle.records.proofs.Laws.Ranges.{Within, fields_record}
use Rattle.records.specs.Bodies.{lengths_fit, lengths_ok, fields_ok, texts_ok, judge_body}

pub fixed_range : (t : ℕ) → Within 11 (fixed_of t) 17
unfolding fixed_of
fixed_range t =
    eq_elim P t 1 _ _ (λ _. omega arith)
    (λ _. eq_elim P t 2 _ _ (λ _. omega arith)
    (λ _. eq_elim P t 3 _ _ (λ _. omega arith)
    (λ _. eq_elim P t 4 _ _ (λ _. omega arith) (λ _. eq_elim P t 5 _ _ (λ _. omega arith) (λ _. omega arith)))))
  where
    P : ℕ → Type 0
    P n = Within 11 n 17

-- the lengths, one by one
pub lengths_over : (t : ℕ) (p : List ℕ) → length p < fixed_of t + text_length t p + note_length t p → lengths_ok t p ≡ false
unfolding lengths_ok lengths_fit
lengths_over t p h =
    lt_elim (λ z. z ≡ false) (length p) (fixed_of t) _ _ (λ _. refl)
    (λ _. lt_elim (λ z. z ≡ false) most_text (text_length t p) _ _ (λ _. refl) (λ _. is_lt h _ _))

pub lengths_text : (t : ℕ) (p : List ℕ) → most_text < text_length t p → lengths_ok t p ≡ false
unfolding lengths_ok lengths_fit
lengths_text t p h = lt_elim (λ z. z ≡ false) (length p) (fixed_of t) _ _ (λ _. refl) (λ _. is_lt h _ _)

pub lengths_fit_lem : (t : ℕ) (p : List ℕ) → text_length t p ≤ most_text → fixed_of t + text_length t p + note_length t p ≤ length p → lengths_ok t p ≡ true
unfolding lengths_ok lengths_fit
lengths_fit_lem t p h l = is_ge (omega arith) _ _ ∙ is_ge h _ _ ∙ is_ge l _ _

pub record Judged (t : ℕ) (p : List ℕ) : Type 0 where
  pub fits : fixed_of t + text_length t p + note_length t p ≤ length p
  pub text-most : text_length t p ≤ most_text
  pub fields : fields_ok t p ≡ true
  pub sound : record_ok (record_of t p) ≡ true
  pub text : no_zero (body_text t p) ≡ true
  pub note : note_ok (body_note t p) ≡ true

pub body_judged : (t : ℕ) (p : List ℕ) → judge_body t p ≡ Ok tt → Judged t p
unfolding judge_body lengths_ok lengths_fit texts_ok
body_judged t p h =
    let a = b_take (lengths_ok t p) _ _ err_not_ok h in
    let b = b_take (fields_ok t p) _ _ err_not_ok a.1 in
    let c = b_take (texts_ok t p) _ _ err_not_ok b.1 in
    let l1 = lt_skip (length p) (fixed_of t) _ _ false≢true a.0 in
    let l2 = lt_skip most_text (text_length t p) _ _ false≢true l1.1 in
    let l3 = lt_skip (length p) (fixed_of t + text_length t p + note_length t p) _ _ false≢true l2.1 in
    let x = b_take (no_zero (body_text t p)) _ _ false≢true c.0 in
    record { fits = l3.0; text-most = l2.0; fields = b.0; sound = fields_record t p b.0; text = x.0; note = x.1 }

-- Text and note are as long as the body says.
pub text_long : (t : ℕ) (p : List ℕ) → fixed_of t + text_length t p ≤ length p → length (body_text t p) ≡ text_length t p
text_long t p h = length-take-le (text_length t p) (drop (fixed_of t) p) (rw length-drop (omega arith))

pub note_long : (t : ℕ) (p : List ℕ) → fixed_of t + text_length t p + note_length t p ≤ length p → length (body_note t p) ≡ note_length t p
note_long t p h = length-take-le (note_length t p) (drop (fixed_of t + text_length t p) p) (rw length-drop (omega arith))
