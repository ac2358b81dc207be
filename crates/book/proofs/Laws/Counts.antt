-- How many records a book can have: each takes 14 bytes or more.
-- Assumes nothing.
use Rattle.std.specs.Prelude.{ℕ, zero, suc, ◌+◌, ◌*◌, ◌≤◌, List, length}
use Rattle.std.proofs.Common.{arith, length-take, length-drop}
use Rattle.records.specs.Fields.{fixed_of, text_length, note_length}
use Rattle.records.proofs.Laws.Judged.{Judged, body_judged, fixed_range}
use Rattle.book.specs.Walk.{type_at, body_length_at, body_at, next_place}
use Rattle.book.specs.Books.{places_of}
use Rattle.book.specs.Invariants.{RecordAt}
use Rattle.book.proofs.Laws.Books.{Cursor, cursor_first, Ahead, cursor-ahead}
use Rattle.book.specs.Settings.{first_record}

-- head and fixed bytes
record_bytes_lem : (f : List ℕ) (at : ℕ) → RecordAt f at → 11 ≤ body_length_at f at
record_bytes_lem f at r =
    let j : Judged (type_at f at) (body_at f at) = body_judged (type_at f at) (body_at f at) r.fine in
    let l : length (body_at f at) ≤ body_length_at f at = simp (length-take, length-drop) (omega arith) in
    let b : fixed_of (type_at f at) + text_length (type_at f at) (body_at f at) + note_length (type_at f at) (body_at f at) ≤ length (body_at f at) = j.fits in
    let x = fixed_range (type_at f at) in
    omega arith

record Spaced (f : List ℕ) (n : ℕ) : Type 0 where
  at : ℕ
  cursor : Cursor f n at
  behind : first_record + 14 * n ≤ at

spaced : (f : List ℕ) → first_record ≤ length f → (n : ℕ) → n ≤ length (places_of f) → Spaced f n
spaced f h zero l = record { at = first_record; cursor = cursor_first f h; behind = omega arith }
spaced f h (suc n) l =
    let r : Spaced f n = spaced f h n (omega arith) in
    let a : Ahead f n r.at = cursor-ahead f n r.at r.cursor l in
    let b : 11 ≤ body_length_at f r.at = record_bytes_lem f r.at a.entry in
    record { at = next_place f r.at; cursor = a.next; behind = omega (arith, r.behind) }

pub count_most : (f : List ℕ) → first_record ≤ length f → first_record + 14 * length (places_of f) ≤ length f
count_most f h =
    let r : Spaced f (length (places_of f)) = spaced f h (length (places_of f)) (omega arith) in
    omega (arith, r.behind, r.cursor.here.high)
