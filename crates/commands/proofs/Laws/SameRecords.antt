-- What two files that are read as the same book give of a record and its note: the same answers and the same bytes.
-- Assumes nothing.
use Rattle.std.specs.Prelude.{Result, Ok, Err, ℕ, ◌<◌, ◌≡◌, get_or}
use Rattle.std.proofs.Math.Path.{refl, sym, ap}
use Rattle.std.proofs.Common.{◌∙◌, arith}
use mathlib.Core.List.{List}
use Rattle.std.proofs.Math.ListN.{length}
use Rattle.prelude.proofs.Laws.Choice.{is_ge, lt_elim}
use Rattle.prelude.proofs.Laws.Members.{member_at}
use Rattle.texts.specs.Notes.{lines_of}
use Rattle.book.specs.Books.{book_of, entry_at, places_of, record_from, record_answer, record_text_in, record_note_in}
use Rattle.book.specs.Lines.{note_from, lines_in, lines_answer, note_line_of, note_line_in, line_answer}
use Rattle.book.proofs.Laws.Books.{book_accepted}
use Rattle.book.proofs.Laws.Entries.{record_found}
use Rattle.book.specs.SameBook.{SameTexts, SameBook}
use Rattle.book.specs.declared.types.Entry.{Entry}
use Rattle.prelude.specs.declared.refusals.Refusal.{Refusal}
use Rattle.book.specs.declared.types.Book.{Book}

module _ (f g : List ℕ) (s : SameBook f g) (k : ℕ) where
  entry-there : k < length (places_of f) → entry_at g (get_or (places_of g) k 0) ≡ entry_at f (get_or (places_of f) k 0)
  entry-there h = rw s.places (s.entry (get_or (places_of f) k 0) (member_at (places_of f) k 0 h))

  from-same : (b : Result Book Refusal) → book_of f ≡ b → record_from g k b ≡ record_from f k b
  unfolding record_from
  from-same (Ok b) q =
      let c : b.records ≡ length (places_of f) = (book_accepted f q).count in
      lt_elim {X = Unit {0}} (λ _. record_from g k (Ok b) ≡ record_from f k (Ok b)) k b.records tt tt
      (λ h. rw (entry-there (omega arith))) (λ h. is_ge h _ _ ∙ sym (is_ge h _ _))
  from-same (Err r) q = refl

  pub record_same : record_answer g k ≡ record_answer f k
  unfolding record_answer
  record_same = ap (record_from g k) s.book ∙ from-same (book_of f) refl

  texts-same : {e : Entry} → record_answer f k ≡ Ok e → SameTexts f g e
  texts-same h =
      let r = record_found f k h in
      rw r.entry at (s.texts (get_or (places_of f) k 0) (member_at (places_of f) k 0 r.number))

  pub text_same : record_text_in g (record_answer g k) ≡ record_text_in f (record_answer f k)
  unfolding record_text_in
  text_same = ap (record_text_in g) record_same ∙ by (record_answer f k) refl
    where
      by : (a : Result Entry Refusal) → record_answer f k ≡ a → record_text_in g a ≡ record_text_in f a
      by (Ok e) q = (texts-same q).text
      by (Err r) q = refl

  pub note-same : record_note_in g (record_answer g k) ≡ record_note_in f (record_answer f k)
  unfolding record_note_in
  note-same = ap (record_note_in g) record_same ∙ by (record_answer f k) refl
    where
      by : (a : Result Entry Refusal) → record_answer f k ≡ a → record_note_in g a ≡ record_note_in f a
      by (Ok e) q = (texts-same q).note
      by (Err r) q = refl

  pub note-lines-same : lines_answer g k ≡ lines_answer f k
  unfolding lines_answer lines_in note_from
  note-lines-same = ap (λ (a : Result Entry Refusal). lines_in g (note_from a)) record_same ∙ by (record_answer f k) refl
    where
      by : (a : Result Entry Refusal) → record_answer f k ≡ a → lines_in g (note_from a) ≡ lines_in f (note_from a)
      by (Ok e) q = ap (λ (t : List ℕ). Ok (length (lines_of t))) (texts-same q).note
      by (Err r) q = refl

  pub note-line-same : (j : ℕ) → line_answer g k j ≡ line_answer f k j
  unfolding line_answer note_line_in note_line_of note_from
  note-line-same j = ap (λ (a : Result Entry Refusal). note_line_in g j (note_from a)) record_same ∙ by (record_answer f k) refl
    where
      by : (a : Result Entry Refusal) → record_answer f k ≡ a → note_line_in g j (note_from a) ≡ note_line_in f j (note_from a)
      by (Ok e) q = rw (texts-same q).note
      by (Err r) q = refl
