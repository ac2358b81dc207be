-- Laws of what an export gives and leaves: the span's range, the two sizes, and the buffer after it.
-- Assumes nothing.
use Rattle.std.specs.Prelude.{Result, Ok, Err, ℕ, ◌+◌, ◌<◌, ◌≤◌, ◌≡◌, Bool, true, false, List, length, take, drop}
use Rattle.std.proofs.Math.Path.{refl, ap}
use Rattle.std.proofs.Common.{◌∙◌, arith}
use Rattle.std.proofs.Math.Bool.{false≢true}
use Rattle.prelude.proofs.Laws.Choice.{is_lt, is_ge, is_true, is_false, lt_elim, lt_skip, b_skip, b_take}
use Rattle.prelude.specs.Refusals.{no_room, too_many_blocks, refusal}
use Rattle.prelude.specs.Splice.{splice}
use Rattle.prelude.proofs.Laws.Splice.{take-splice, drop-splice}
use Rattle.prelude.specs.declared.refusals.Refusal.{Refusal}
use Rattle.days.specs.Days.{last_day}
use Rattle.book.specs.Books.{book_of}
use Rattle.book.specs.declared.types.Book.{Book}
use Rattle.pages.specs.Pages.{Numbered}
use Rattle.calendar_writer.specs.DayLists.{past_last_block, most_days}
use Rattle.export.specs.Export.{span_ok, export_days, export_file, sized, span_answer, export_from, export_answer, leaves_file, export_leaves}
use Rattle.prelude.proofs.Laws.Results.{err_not_ok, ok_inj}

-- a first day and a count in range
pub record Span (first count : ℕ) : Type 0 where
  pub day : first ≤ last_day
  pub most : count ≤ most_days
  pub end : first + count ≤ last_day + 1

module _ {first count : ℕ} where
  pub span-facts : span_ok first count ≡ true → Span first count
  unfolding span_ok
  span-facts h =
      let e1 = lt_skip last_day first _ _ false≢true h in
      let e2 = lt_skip most_days count _ _ false≢true e1.1 in
      let e3 = lt_skip (last_day + 1) (first + count) _ _ false≢true e2.1 in
      record { day = e1.0; most = e2.0; end = e3.0 }

  pub facts-span : Span first count → span_ok first count ≡ true
  unfolding span_ok
  facts-span s = is_ge s.day _ _ ∙ is_ge s.most _ _ ∙ is_ge s.end _ _

-- out of range by the first day, by the count
pub first_beyond : (first count : ℕ) → last_day < first → span_ok first count ≡ false
unfolding span_ok
first_beyond first count h = is_lt h _ _

pub count_beyond : (first count : ℕ) → most_days < count → span_ok first count ≡ false
unfolding span_ok
count_beyond first count h = lt_elim (λ b. b ≡ false) last_day first _ _ (λ _. refl) (λ _. is_lt h _ _)

module _ (shows : ℕ → Numbered → Bool) (f : List ℕ) (first count : ℕ) where
  -- the two sizes
  pub span-past : (room : ℕ) → past_last_block (export_days shows f first count) ≡ true → span_answer shows f first count room ≡ Err (refusal too_many_blocks)
  unfolding span_answer sized
  span-past room h = is_true h _ _

  pub span-short : {room : ℕ} → past_last_block (export_days shows f first count) ≡ false → room < length (export_file shows f first count) → span_answer shows f first count room ≡ Err (refusal no_room)
  unfolding span_answer sized
  span-short h l = is_false h _ _ ∙ is_lt l _ _

  pub span_fits : {room : ℕ} → past_last_block (export_days shows f first count) ≡ false → length (export_file shows f first count) ≤ room → span_answer shows f first count room ≡ Ok (length (export_file shows f first count))
  unfolding span_answer sized
  span_fits h l = is_false h _ _ ∙ is_ge l _ _

  -- of an accepted book and a span in range
  pub answer-span : (room : ℕ) {b : Book} → book_of f ≡ Ok b → span_ok first count ≡ true → export_answer shows f first count room ≡ span_answer shows f first count room
  unfolding export_answer export_from
  answer-span room e s = rw e (is_true s _ _)

  -- success: an accepted book, a span in range, neither size passed; the file is as long as said
  pub record Success (room n : ℕ) : Type 0 where
    pub book : Book
    pub accepted : book_of f ≡ Ok book
    pub span : Span first count
    pub near : past_last_block (export_days shows f first count) ≡ false
    pub long : length (export_file shows f first count) ≡ n
    pub enough : n ≤ room

  sized-written : (room size n : ℕ) (past : Bool) → sized room past size ≡ Ok n → (past ≡ false) × (size ≡ n) × (n ≤ room)
  unfolding sized
  sized-written room size n past h =
      let e1 = b_skip past _ _ err_not_ok h in
      let e2 = lt_skip room size _ _ err_not_ok e1.1 in
      let e3 : size ≡ n = ok_inj e2.1 in
      (e1.0, e3, omega (arith, e2.0))

  pub span-written : (room n : ℕ) → span_answer shows f first count room ≡ Ok n → (past_last_block (export_days shows f first count) ≡ false) × (length (export_file shows f first count) ≡ n) × (n ≤ room)
  unfolding span_answer
  span-written room n h = sized-written room (length (export_file shows f first count)) n (past_last_block (export_days shows f first count)) h

  success-from : (room n : ℕ) (b : Result Book Refusal) → book_of f ≡ b → export_from shows f first count room b ≡ Ok n → Success room n
  unfolding export_from
  success-from room n (Ok b) e h =
      let s = b_take (span_ok first count) _ _ err_not_ok h in
      let z = span-written room n s.1 in
      record { book = b; accepted = e; span = span-facts s.0; near = z.0; long = z.1; enough = z.2 }
  success-from room n (Err r) e h = absurd (err_not_ok h)

  pub export-success : (room n : ℕ) → export_answer shows f first count room ≡ Ok n → Success room n
  unfolding export_answer
  export-success room n h = success-from room n (book_of f) refl h

  -- the buffer after a refusal
  pub left-refused : (out : List ℕ) {e : Refusal} → export_answer shows f first count (length out) ≡ Err e → export_leaves shows f first count out ≡ out
  unfolding export_leaves leaves_file
  left-refused out h = ap (leaves_file (export_file shows f first count) out) h

  -- after success it begins with the file, and the bytes past it are as before
  module _ (out : List ℕ) (n : ℕ) (h : export_answer shows f first count (length out) ≡ Ok n) where
    pub left-written : export_leaves shows f first count out ≡ splice out 0 (export_file shows f first count)
    unfolding export_leaves leaves_file
    left-written = ap (leaves_file (export_file shows f first count) out) h

    pub left-file : take n (export_leaves shows f first count out) ≡ export_file shows f first count
    left-file =
        let s : Success (length out) n = export-success (length out) n h in
        let e : n ≡ 0 + length (export_file shows f first count) = omega arith in
        rw (left-written, e) (take-splice out 0 (export_file shows f first count) (omega arith))

    pub left-past : drop n (export_leaves shows f first count out) ≡ drop n out
    left-past =
        let s : Success (length out) n = export-success (length out) n h in
        let e : n ≡ 0 + length (export_file shows f first count) = omega arith in
        rw (left-written, e) (drop-splice out 0 (export_file shows f first count) (omega arith))
