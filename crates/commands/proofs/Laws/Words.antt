-- Laws of words: what is spelled, and that days and counts are compared as they are, however long their numbers.
-- Assumes nothing.
use Rattle.std.specs.Prelude.{Result, Ok, Err, ℕ, ◌≡◌, refl, true, false, List, [], ◌∷◌, length}
use Rattle.std.proofs.Common.{sym, ◌∙◌, arith}
use Rattle.std.proofs.lemmas.Bool.{false≢true}
use Rattle.prelude.proofs.Laws.Choice.{is_lt, lt_elim, eq_take}
use Rattle.prelude.specs.Bytes.{byte}
use Rattle.digits.specs.Digits.{capped}
use Rattle.digits.proofs.Laws.Numbers.{capped_below, capped_above}
use Rattle.book.specs.Books.{book_of}
use Rattle.falls.specs.declared.types.ShortMonth.{ShortMonth}
use Rattle.pages.specs.Answers.{validated_day, validated}
use Rattle.export.specs.Export.{span_ok}
use Rattle.export.proofs.Laws.Answers.{first_beyond, count_beyond}
use Rattle.commands.specs.Words.{spelled}
use Rattle.commands.specs.Responses.{export_response}
use Rattle.commands.proofs.Laws.Responses.{export_beyond}
use Rattle.prelude.specs.declared.refusals.Refusal.{Refusal}
use Rattle.book.specs.declared.types.Book.{Book}

-- four bytes are those at places 0 to 3
four_bytes : (w : List ℕ) → length w ≡ 4 → w ≡ byte w 0 ∷ byte w 1 ∷ byte w 2 ∷ byte w 3 ∷ []
four_bytes [] h = absurd (omega arith)
four_bytes (a ∷ []) h = absurd (omega arith)
four_bytes (a ∷ b ∷ []) h = absurd (omega arith)
four_bytes (a ∷ b ∷ c ∷ []) h = absurd (omega arith)
four_bytes (a ∷ b ∷ c ∷ d ∷ []) h = refl
four_bytes (a ∷ b ∷ c ∷ d ∷ e ∷ w) h = absurd (omega arith)

pub spelled_is : (w : List ℕ) (a b c d : ℕ) → spelled w a b c d ≡ true → w ≡ a ∷ b ∷ c ∷ d ∷ []
unfolding spelled
spelled_is w a b c d e =
    let l = eq_take (length w) 4 _ _ false≢true e in
    let e0 = eq_take (byte w 0) a _ _ false≢true l.1 in
    let e1 = eq_take (byte w 1) b _ _ false≢true e0.1 in
    let e2 = eq_take (byte w 2) c _ _ false≢true e1.1 in
    let e3 = eq_take (byte w 3) d _ _ false≢true e2.1 in
    four_bytes w l.0 ∙ rw (e0.0, e1.0, e2.0, e3.0)

-- "2^32 + 4,822 is 11, not day 4,822": a page is asked for by the number itself
validated-capped_of : (b : Result Book Refusal) (v : ℕ) → validated_day (record { 0 = capped v }) b ≡ validated_day (record { 0 = v }) b
unfolding validated_day
validated-capped_of (Ok b) v =
    lt_elim {X = Unit {0}} (λ _. validated_day (record { 0 = capped v }) (Ok b) ≡ validated_day (record { 0 = v }) (Ok b)) v 65536 tt tt
    (λ h. rw (capped_below h))
    (λ h. rw (capped_above h) (is_lt (omega arith) _ _ ∙ sym (is_lt (omega arith) _ _)))
validated-capped_of (Err e) v = refl

pub validated-capped : (f : List ℕ) (v : ℕ) → validated f (record { 0 = capped v }) ≡ validated f (record { 0 = v })
unfolding validated
validated-capped f v = validated-capped_of (book_of f) v

-- the same of an export's first day and count
module _ (f : List ℕ) (c : ShortMonth) (room v w : ℕ) where
  both-beyond : span_ok (capped v) (capped w) ≡ false → span_ok v w ≡ false → export_response f c room (capped v) (capped w) ≡ export_response f c room v w
  both-beyond h k = export_beyond f c room (capped v) (capped w) h ∙ sym (export_beyond f c room v w k)

  pub export-capped : export_response f c room (capped v) (capped w) ≡ export_response f c room v w
  export-capped =
      lt_elim {X = Unit {0}} (λ _. export_response f c room (capped v) (capped w) ≡ export_response f c room v w) v 65536 tt tt
      (λ h.
      lt_elim {X = Unit {0}} (λ _. export_response f c room (capped v) (capped w) ≡ export_response f c room v w) w 65536 tt tt
      (λ k. rw (capped_below h, capped_below k))
      (λ k. both-beyond (count_beyond (capped v) (capped w) (rw (capped_above k) (omega arith))) (count_beyond v w (omega arith))))
      (λ h. both-beyond (first_beyond (capped v) (capped w) (rw (capped_above h) (omega arith))) (first_beyond v w (omega arith)))
