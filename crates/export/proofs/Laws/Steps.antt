-- The appointments so far: none at first, one record more, all of the day's in the end, and never more bytes than its sum.
-- Assumes nothing.
use Rattle.std.specs.Prelude.{ℕ, ◌+◌, ◌<◌, ◌≤◌, ◌≡◌, Bool, get_or, take, drop}
use Rattle.std.proofs.Math.Path.{sym, ap}
use Rattle.std.proofs.Common.{◌∙◌, arith, zero-add, add-one, take-append-drop}
use mathlib.Core.List.{List, [], ◌∷◌, ◌++◌, map, map-append, append-nil}
use Rattle.std.proofs.Math.ListN.{length, length-append}
use Rattle.std.proofs.Math.Seq.{take-suc, take-length}
use Rattle.prelude.specs.Choice.{if_b}
use Rattle.prelude.proofs.Laws.Choice.{is_true, is_false, bool_cases}
use Rattle.sorting.specs.Keep.{keep}
use Rattle.sorting.proofs.Laws.Keep.{keep-nil, keep-yes, keep-no, keep_append}
use Rattle.pages.specs.Pages.{Numbered, page_of}
use Rattle.pages.specs.Codes.{code, decode}
use Rattle.pages.proofs.Laws.Decoding.{page-decoded}
use Rattle.calendar.specs.File.{Appointment, appointments_bytes}
use Rattle.calendar_writer.specs.Sums.{Sum}
use Rattle.calendar_writer.proofs.Laws.Rows.{bytes_append, Fits}
use Rattle.export.specs.Export.{appointment_of, appointments_for}
use Rattle.export.specs.Invariants.{GoodBook, MarksShown}
use Rattle.export.specs.Passes.{CountedBook, kept_in, Weighed, so_far}
use Rattle.export.proofs.Laws.Books.{kept_page, same-page, weighed-sum}

module _ (f : List ℕ) (interval : ℕ) (mark : ℕ → Numbered → Bool) (codes : List ℕ) where
  abbrev some : ℕ → ℕ → List Appointment
  some n k = so_far f interval mark codes n k

  -- at first
  pub so-far-zero : (k : ℕ) → so_far f interval mark codes 0 k ≡ []
  unfolding so_far
  so-far-zero k = rw (keep-nil (mark k))

  keep_snoc : (p : Numbered → Bool) (xs : List Numbered) (x : Numbered) → map (appointment_of f interval) (keep p (xs ++ (x ∷ []))) ≡ if_b (p x) (map (appointment_of f interval) (keep p xs) ++ (appointment_of f interval x ∷ [])) (map (appointment_of f interval) (keep p xs))
  keep_snoc p xs x =
      rw (keep_append p xs (x ∷ []), map-append (appointment_of f interval) (keep p xs) (keep p (x ∷ [])))
      (bool_cases (p x)
      (λ t. rw (keep-yes p x [] t, keep-nil p) (sym (is_true t _ _)))
      (λ t. rw (keep-no p x [] t, keep-nil p) (append-nil _ ∙ sym (is_false t _ _))))

  -- one record more
  pub so-far-suc : (n k : ℕ) → n < length codes → so_far f interval mark codes (n + 1) k ≡ if_b (mark k (decode f (get_or codes n 0))) (so_far f interval mark codes n k ++ (appointment_of f interval (decode f (get_or codes n 0)) ∷ [])) (so_far f interval mark codes n k)
  unfolding so_far
  so-far-suc n k l =
      rw (add-one n, take-suc codes n 0 l, map-append (decode f) (take n codes) (get_or codes n 0 ∷ []))
      (keep_snoc (mark k) (map (decode f) (take n codes)) (decode f (get_or codes n 0)))

  -- no more bytes than in the end
  pub so-most : (n k : ℕ) → length (appointments_bytes (so_far f interval mark codes n k)) ≤ length (appointments_bytes (so_far f interval mark codes (length codes) k))
  unfolding so_far
  so-most n k =
      let p = mark k in
      let g = appointment_of f interval in
      let a = map (decode f) (take n codes) in
      let b = map (decode f) (drop n codes) in
      let whole : map (decode f) (take (length codes) codes) ≡ a ++ b = ap (map (decode f)) (take-length codes ∙ sym (take-append-drop n codes)) ∙ map-append (decode f) (take n codes) (drop n codes) in
      let e : appointments_bytes (map g (keep p (map (decode f) (take (length codes) codes)))) ≡ appointments_bytes (map g (keep p a)) ++ appointments_bytes (map g (keep p b)) =
      ap (λ (l : List Numbered). appointments_bytes (map g (keep p l))) whole ∙ rw (keep_append p a b, map-append g (keep p a) (keep p b)) (bytes_append _ _) in
      omega (arith, ap length e, length-append (appointments_bytes (map g (keep p a))) (appointments_bytes (map g (keep p b))))

  -- in the end
  module _ (days : List ℕ) {n : ℕ} (b : CountedBook f n) (e : codes ≡ map code (page_of (kept_in mark (length days)) f)) where
    so-page : (k : ℕ) → k < length days → so_far f interval mark codes (length codes) k ≡ map (appointment_of f interval) (page_of (mark k) f)
    unfolding so_far
    so-page k l =
        let d : map (decode f) (take (length codes) codes) ≡ page_of (kept_in mark (length days)) f = ap (map (decode f)) (take-length codes ∙ e) ∙ page-decoded f b.long b.size (kept_in mark (length days)) in
        ap (λ (xs : List Numbered). map (appointment_of f interval) (keep (mark k) xs)) d
        ∙ ap (map (appointment_of f interval)) (kept_page f mark (length days) k l)

    module _ {shows : ℕ → Numbered → Bool} {first : ℕ} (marks : MarksShown f shows first mark days) where
      pub so-far-all : (k : ℕ) → k < length days → so_far f interval mark codes (length codes) k ≡ appointments_for shows f interval (first + k)
      unfolding appointments_for
      so-far-all k l = so-page k l ∙ ap (map (appointment_of f interval)) (same-page marks k l)

      pub so-far-fits : GoodBook f → {sums : List ℕ} → Weighed f mark days sums → (m : ℕ) → Fits (so_far f interval mark codes m) 0 sums
      so-far-fits good {sums} w m =
          record {
            each =
                λ k l.
                let s : Sum (get_or sums k 0) (appointments_for shows f interval (first + k)) = weighed-sum marks b good interval w k (omega (arith, w.long)) in
                rw (zero-add k) (omega (arith, so-most m k, s.bytes, ap (λ (al : List Appointment). length (appointments_bytes al)) (so-far-all k (omega (arith, w.long)))));
          }
