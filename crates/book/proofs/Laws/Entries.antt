-- Laws of the records of an accepted book: each is judged fine, and its text and note lie in the file.
-- Assumes nothing.
use Rattle.std.specs.Prelude.{Result, Ok, Err, ℕ, zero, suc, ◌+◌, ◌<◌, ◌≤◌, ◌≡◌, refl, List, length, get_or}
use Rattle.std.proofs.Common.{arith, length-take, length-drop}
use Rattle.prelude.proofs.Laws.Choice.{lt_take}
use Rattle.prelude.specs.declared.refusals.Refusal.{Refusal}
use Rattle.records.specs.Fields.{fixed_of, text_length, note_length}
use Rattle.records.proofs.Laws.Judged.{Judged, body_judged}
use Rattle.book.specs.Walk.{type_at, body_length_at, body_at, next_place}
use Rattle.book.specs.Books.{book_of, entry_at, places_of, record_from, record_answer}
use Rattle.book.specs.Invariants.{RecordAt, AcceptedBook}
use Rattle.book.proofs.Laws.Books.{book_accepted, Cursor, cursor_first, Ahead, cursor-ahead}
use Rattle.book.specs.declared.types.Entry.{Entry}
use Rattle.book.specs.Settings.{first_record}
use Rattle.book.specs.declared.types.Book.{Book}
use Rattle.prelude.proofs.Laws.Results.{err_not_ok, ok_inj}

-- a cursor for each record
pub record Reached (f : List ℕ) (n : ℕ) : Type 0 where
  pub at : ℕ
  pub cursor : Cursor f n at

pub entry_reached : (f : List ℕ) → first_record ≤ length f → (n : ℕ) → n ≤ length (places_of f) → Reached f n
entry_reached f h zero l = record { at = first_record; cursor = cursor_first f h }
entry_reached f h (suc n) l =
    let r : Reached f n = entry_reached f h n (omega arith) in
    record { at = next_place f r.at; cursor = (cursor-ahead f n r.at r.cursor l).next }

-- at the n-th record's place
pub cursor_at : {f : List ℕ} {n at : ℕ} → first_record ≤ length f → n < length (places_of f) → at ≡ get_or (places_of f) n 0 → Cursor f n at
cursor_at {f} {n} h l e =
    let r : Reached f n = entry_reached f h n (omega arith) in
    rw (e, (cursor-ahead f n r.at r.cursor l).place) r.cursor

-- the n-th record's place holds a record that was judged fine
pub record_there : (f : List ℕ) → first_record ≤ length f → (n : ℕ) → n < length (places_of f) → RecordAt f (get_or (places_of f) n 0)
record_there f h n l =
    let r : Reached f n = entry_reached f h n (omega arith) in
    let a : Ahead f n r.at = cursor-ahead f n r.at r.cursor l in
    rw a.place a.entry

-- text and note lie in the file, the note right behind the text
pub record Inside (f : List ℕ) (e : Entry) : Type 0 where
  pub text : e.text.place + e.text.length ≡ e.note.place
  pub note : e.note.place + e.note.length ≤ length f

pub text_then_note : (f : List ℕ) (at : ℕ) → (entry_at f at).text.place + (entry_at f at).text.length ≡ (entry_at f at).note.place
unfolding entry_at
text_then_note f at = refl

length_body : (f : List ℕ) (at : ℕ) → at + 3 + body_length_at f at ≤ length f → length (body_at f at) ≡ body_length_at f at
length_body f at h = simp (length-take, length-drop) (omega arith)

-- a record's fixed bytes lie in its body
pub fixed_most : (f : List ℕ) (at : ℕ) → RecordAt f at → fixed_of (type_at f at) ≤ body_length_at f at
fixed_most f at r =
    let j : Judged (type_at f at) (body_at f at) = body_judged (type_at f at) (body_at f at) r.fine in
    let l : length (body_at f at) ≡ body_length_at f at = length_body f at r.body in
    let b : fixed_of (type_at f at) + text_length (type_at f at) (body_at f at) + note_length (type_at f at) (body_at f at) ≤ length (body_at f at) = j.fits in
    omega arith

pub entry_ends : (f : List ℕ) (at : ℕ) → RecordAt f at → (entry_at f at).note.place + (entry_at f at).note.length ≤ next_place f at
unfolding entry_at
entry_ends f at r =
    let j : Judged (type_at f at) (body_at f at) = body_judged (type_at f at) (body_at f at) r.fine in
    let l : length (body_at f at) ≡ body_length_at f at = length_body f at r.body in
    let b : fixed_of (type_at f at) + text_length (type_at f at) (body_at f at) + note_length (type_at f at) (body_at f at) ≤ length (body_at f at) = j.fits in
    omega arith

pub entry_inside : (f : List ℕ) (at : ℕ) → RecordAt f at → Inside f (entry_at f at)
entry_inside f at r = record { text = text_then_note f at; note = omega (arith, entry_ends f at r, r.body) }

-- which record an answer gives
pub record FoundEntry (f : List ℕ) (k : ℕ) (e : Entry) : Type 0 where
  pub long : first_record ≤ length f
  pub number : k < length (places_of f)
  pub entry : entry_at f (get_or (places_of f) k 0) ≡ e

found_from : (f : List ℕ) (k : ℕ) {e : Entry} (b : Result Book Refusal) → book_of f ≡ b → record_from f k b ≡ Ok e → FoundEntry f k e
unfolding record_from
found_from f k (Ok b) q h =
    let a : AcceptedBook f b = book_accepted f q in
    let p = lt_take k b.records _ _ err_not_ok h in
    record { long = a.long; number = omega (arith, p.0, a.count); entry = ok_inj p.1 }
found_from f k (Err r) q h = absurd (err_not_ok h)

pub record_found : (f : List ℕ) (k : ℕ) {e : Entry} → record_answer f k ≡ Ok e → FoundEntry f k e
unfolding record_answer
record_found f k h = found_from f k (book_of f) refl h

-- the text and the note of a record at a number lie in the file
pub record_inside : (f : List ℕ) (k : ℕ) {e : Entry} → record_answer f k ≡ Ok e → Inside f e
record_inside f k h =
    let r = record_found f k h in
    rw r.entry at (entry_inside f (get_or (places_of f) k 0) (record_there f r.long k r.number))
