-- The items of an accepted book are what the reader's calls give: as many as it counts, and each with the record, the text and the note of its number.
-- Assumes nothing.
use Rattle.std.specs.Prelude.{Ok, ℕ, zero, suc, ◌+◌, ◌≤◌, ◌<◌, ◌≡◌, refl, List, [], ◌∷◌, length, get_or, take, drop}
use Rattle.std.proofs.Math.Path.{sym, ap}
use Rattle.std.proofs.Common.{◌∙◌}
use native.Mathlib.Omega.{arith}
use Rattle.std.proofs.Math.ListN.{length-map, get_or-map}
use Rattle.prelude.proofs.Laws.Choice.{is_lt}
use Rattle.prelude.specs.Bytes.{part}
use Rattle.prelude.proofs.Laws.Bytes.{part-part}
use Rattle.records.specs.Fields.{fixed_of, text_length, note_length}
use Rattle.records.proofs.Laws.Judged.{Judged, body_judged}
use Rattle.book.specs.Walk.{type_at, body_length_at, body_at}
use Rattle.book.specs.Books.{book_of, entry_at, places_of, record_from, record_answer, record_text_in, record_note_in}
use Rattle.book.specs.Invariants.{RecordAt, AcceptedBook}
use Rattle.book.proofs.Laws.Books.{book_accepted}
use Rattle.book.proofs.Laws.Entries.{record_there}
use Rattle.book.specs.declared.types.Book.{Book}
use Rattle.writer.specs.Again.{item_at, items_of, Reads}

length-take_most : (m : ℕ) (s : List ℕ) → length (take m s) ≤ m
length-take_most zero s = omega arith
length-take_most (suc m) [] = omega arith
length-take_most (suc m) (x ∷ s) = omega (arith, length-take_most m s)

pub item_kind : (f : List ℕ) (at : ℕ) → (entry_at f at).«record» ≡ (item_at f at).kind
unfolding entry_at item_at
item_kind f at = refl

module _ (f : List ℕ) (at : ℕ) (r : RecordAt f at) where
  within : fixed_of (type_at f at) + text_length (type_at f at) (body_at f at) + note_length (type_at f at) (body_at f at) ≤ body_length_at f at
  within =
      let j : Judged (type_at f at) (body_at f at) = body_judged (type_at f at) (body_at f at) r.fine in
      omega (arith, j.fits, length-take_most (body_length_at f at) (drop (at + 3) f))

  pub item-text : record_text_in f (Ok (entry_at f at)) ≡ (item_at f at).text
  unfolding record_text_in entry_at item_at
  item-text = sym (part-part f (at + 3) (body_length_at f at) (fixed_of (type_at f at)) (text_length (type_at f at) (body_at f at)) (omega (arith, within)))

  pub item-note : record_note_in f (Ok (entry_at f at)) ≡ (item_at f at).note
  unfolding record_note_in entry_at item_at
  item-note =
      let e : at + 3 + (fixed_of (type_at f at) + text_length (type_at f at) (body_at f at)) ≡ at + 3 + fixed_of (type_at f at) + text_length (type_at f at) (body_at f at) = omega arith in
      sym (part-part f (at + 3) (body_length_at f at) (fixed_of (type_at f at) + text_length (type_at f at) (body_at f at)) (note_length (type_at f at) (body_at f at)) within ∙ ap (λ (p : ℕ). part f p (note_length (type_at f at) (body_at f at))) e)

item_read : (f : List ℕ) (k at : ℕ) → RecordAt f at → record_answer f k ≡ Ok (entry_at f at) → Reads f k (item_at f at)
item_read f k at r e =
    record {
      entry = entry_at f at;
      found = e;
      «record» = item_kind f at;
      text = ap (record_text_in f) e ∙ item-text f at r;
      note = ap (record_note_in f) e ∙ item-note f at r;
    }

module _ (f : List ℕ) {b : Book} (h : book_of f ≡ Ok b) where
  pub items-count : length (items_of f) ≡ b.records
  unfolding items_of
  items-count = length-map (places_of f) (item_at f) ∙ sym (book_accepted f h).count

  answered : (k : ℕ) → k < b.records → record_answer f k ≡ Ok (entry_at f (get_or (places_of f) k 0))
  unfolding record_answer record_from
  answered k l = ap (record_from f k) h ∙ is_lt l _ _

  pub items-read : (k : ℕ) → k < b.records → Reads f k (get_or (items_of f) k (item_at f 0))
  unfolding items_of
  items-read k l =
      let a : AcceptedBook f b = book_accepted f h in
      let r : RecordAt f (get_or (places_of f) k 0) = record_there f a.long k (omega (arith, a.count)) in
      rw (get_or-map (item_at f) (places_of f) k 0) (item_read f k (get_or (places_of f) k 0) r (answered k l))
