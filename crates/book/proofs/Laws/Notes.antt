-- Laws of a record's note as a stretch of the file: which it is in an accepted book, and that it lies in the file.
-- Assumes nothing.
use Rattle.std.specs.Prelude.{Result, Ok, Err, ℕ, ◌+◌, ◌<◌, ◌≤◌, ◌≡◌, refl, List, length, get_or}
use Rattle.std.proofs.Common.{sym, ap}
use Rattle.prelude.proofs.Laws.Choice.{is_lt, is_ge}
use Rattle.prelude.specs.Refusals.{no_such_number, refusal}
use Rattle.prelude.specs.declared.refusals.Refusal.{Refusal}
use Rattle.prelude.specs.declared.slices.Stretch.{Stretch}
use Rattle.book.specs.Books.{entry_at, places_of, record_from, record_answer}
use Rattle.book.specs.Lines.{note_from}
use Rattle.book.proofs.Laws.Entries.{Inside, record_inside}
use Rattle.book.specs.declared.types.Book.{Book}
use Rattle.book.specs.declared.types.Entry.{Entry}
use Rattle.prelude.proofs.Laws.Results.{err_not_ok, ok_inj}

pub note_there : (f : List ℕ) (k : ℕ) (b : Book) {s : Stretch} → k < b.records → s ≡ (entry_at f (get_or (places_of f) k 0)).note → Ok s ≡ note_from (record_from f k (Ok b))
unfolding note_from record_from
note_there f k b h e = rw (is_lt h) (ap Ok e)

pub note_past : (f : List ℕ) (k : ℕ) (b : Book) → b.records ≤ k → Err (refusal no_such_number) ≡ note_from (record_from f k (Ok b))
unfolding note_from record_from
note_past f k b h = rw (is_ge h) refl

inside_from : (f : List ℕ) (k : ℕ) (a : Result Entry Refusal) {s : Stretch} → record_answer f k ≡ a → note_from a ≡ Ok s → s.place + s.length ≤ length f
unfolding note_from
inside_from f k (Ok e) q h =
    let i : Inside f e = record_inside f k q in
    rw (sym (ok_inj h)) i.note
inside_from f k (Err r) q h = absurd (err_not_ok h)

-- the note lies in the file
pub note_inside : (f : List ℕ) (k : ℕ) {s : Stretch} → note_from (record_answer f k) ≡ Ok s → s.place + s.length ≤ length f
note_inside f k h = inside_from f k (record_answer f k) refl h
