-- Same bytes: a plain book, read and written again, has the same bytes, and each of its records may be added.
-- Assumes nothing.
use Rattle.std.specs.Prelude.{Ok, ℕ, suc, ◌≤◌, ◌≡◌, refl, true, length, drop}
use mathlib.Core.List.{List, [], ◌∷◌, ◌++◌, map, append_assoc, Memᴰ}
use Rattle.std.proofs.Common.{arith}
use Rattle.prelude.specs.Bytes.{Bytes}
use Rattle.records.proofs.Laws.Judged.{Judged, body_judged, text_long}
use Rattle.book.specs.Settings.{settings_in_range}
use Rattle.book.specs.Walk.{Walk, more, ended, stopped, type_at, body_at, next_place, walk_from, walk_of, places_in}
use Rattle.book.specs.Fillers.{end_in, fillers_of}
use Rattle.book.specs.Books.{counted, book_of, places_of}
use Rattle.book.proofs.Laws.Walk.{At, at_first, walk_met}
use Rattle.book.specs.Invariants.{RecordAt}
use Rattle.book.proofs.Laws.Books.{book_accepted, refused_not_accepted, walk-counted}
use Rattle.book.proofs.Laws.SameBook.{book_places}
use Rattle.book.specs.declared.types.Book.{Book}
use Rattle.writer.specs.Writing.{end_bytes}
use Rattle.writer.specs.Runs.{record_bytes, book_bytes, Fine, Items}
use Rattle.writer.specs.Again.{item_at, items_of, PlainAt, Each, Plain}
use Rattle.writer.proofs.Laws.Pieces.{settings_ok_range, open_again, record-again, end_again}

-- From a place on the file is the records ahead, and the end record.
ahead_again :
    (f : List ℕ) (n at : ℕ) {b : Book} → Bytes f → At f n at → (w : Walk) → walk_from f n at ≡ w → counted f n w ≡ Ok b
    → Each (PlainAt f) (places_in w) → length f ≤ end_in w → record_bytes (map (item_at f) (places_in w)) ++ end_bytes ≡ drop at f
unfolding places_in end_in counted record_bytes
ahead_again f n at bs a (more p w) e c h l =
    let m = walk_met f n at a e in
    let r = ahead_again f (suc n) (next_place f at) bs m.1.1.0 w m.1.1.1 c h.1 l in
    rw (m.0, append_assoc, r) (record-again f at bs m.1.0 (rw m.0 at h.0))
ahead_again f n at bs a (ended p) e c h l =
    let m = walk_met f n at a e in
    end_again f at m.0 (omega (arith, m.1))
ahead_again f n at bs a (stopped r) e c h l = absurd (refused_not_accepted c)

-- Each record of an accepted book may be added.
item_addable : (f : List ℕ) (at : ℕ) → RecordAt f at → Fine (item_at f at)
unfolding item_at
item_addable f at r =
    let j : Judged (type_at f at) (body_at f at) = body_judged (type_at f at) (body_at f at) r.fine in
    let l = text_long (type_at f at) (body_at f at) (omega arith) in
    record { short = omega arith; ranged = j.sound; clean = j.text; ruled = j.note }

each_addable : (f : List ℕ) (places : List ℕ) → ((at : ℕ) → Memᴰ at places → RecordAt f at) → Items (map (item_at f) places)
each_addable f [] h = tt
each_addable f (at ∷ places) h = (item_addable f at (h at (Memᴰ.head refl)), each_addable f places (λ x i. h x (Memᴰ.tail i)))

pub items_addable : (f : List ℕ) {b : Book} → book_of f ≡ Ok b → Items (items_of f)
unfolding items_of
items_addable f h = each_addable f (places_of f) (λ at i. (book_places f h at i).0)

pub settings_range : (f : List ℕ) {b : Book} → book_of f ≡ Ok b → settings_in_range b.settings ≡ true
settings_range f h =
    let a = book_accepted f h in
    rw a.settings (settings_ok_range f a.set)

-- A book without padding, unnamed bits and fillers, read and written again, has the same bytes.
pub same_bytes : (f : List ℕ) {b : Book} → Bytes f → book_of f ≡ Ok b → Plain f → book_bytes b.settings (items_of f) ≡ f
unfolding book_bytes items_of places_of walk_of fillers_of
same_bytes f bs h p =
    let a = book_accepted f h in
    let l : length f ≤ end_in (walk_of f) = omega (arith, p.no-fillers) in
    let r = ahead_again f 0 12 bs (at_first a.long) (walk_of f) refl (walk-counted f h) p.each l in
    rw (a.settings, r) (open_again f bs a.named a.set)
