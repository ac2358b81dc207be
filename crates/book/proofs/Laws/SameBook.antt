-- Two files that agree up to the end record of an accepted book and have fillers after it are the same book: so a book without its fillers, and with others.
-- Assumes nothing.
use Prim.Native.Nat.{ℕ, suc, ◌+◌, ◌-◌, ◌≤◌}
use Rattle.std.specs.Prelude.{Ok, ◌≡◌, length, drop, replicate}
use Rattle.std.proofs.Math.Path.{refl, sym, ap}
use Rattle.std.proofs.Common.{◌∙◌, ⊎_elim, arith, length-append, take-take, drop_at}
use Rattle.std.proofs.Math.Bool.{true}
use mathlib.Core.List.Memᴰ
use mathlib.Core.List.{List, ◌++◌, Memᴰ}
use Rattle.std.proofs.lemmas.List.{length-replicate, take-append-le}
use Rattle.std.proofs.Math.Seq.{length-take-le}
use Rattle.prelude.proofs.Laws.Choice.{is_ge, is_true}
use Rattle.prelude.proofs.Laws.Members.{map_same}
use Rattle.book.specs.Settings.{book_identified, settings_of, settings_ok, first_record}
use Rattle.book.specs.Walk.{Walk, more, ended, stopped, next_place, walk_from, walk_of, places_in}
use Rattle.book.specs.Fillers.{filler, most_fillers, after_end_record, end_in, fillers_of, unfilled}
use Rattle.book.specs.Books.{counted, book_of, entry_at, entries_of, places_of, most_book_bytes}
use Rattle.book.proofs.Laws.Walk.{At, at_first, walk_met}
use Rattle.book.specs.Invariants.{RecordAt, AcceptedBook}
use Rattle.book.proofs.Laws.Books.{book_accepted, walk-counted}
use Rattle.book.proofs.Laws.Entries.{text_then_note, entry_ends}
use Rattle.book.proofs.Laws.Fillers.{nothing_after, fillers_fine, Ended, walk_ended, book_ended}
use Rattle.book.specs.SameBook.{SameTexts, SameBook}
use Rattle.book.proofs.Laws.Alike.{Alike, stretch-alike, entry-alike, named-alike, settings-alike, settings-ok-alike, walk-alike}
use Rattle.book.specs.declared.types.Book.{Book}

-- what is counted along one walk, where both files have fillers after its end
counted-alike :
    (f g : List ℕ) (n : ℕ) (w : Walk) → settings_of g ≡ settings_of f → after_end_record f (end_in w) ≡ Ok tt
    → after_end_record g (end_in w) ≡ Ok tt → counted g n w ≡ counted f n w
unfolding counted end_in
counted-alike f g n (more p w) s x y = counted-alike f g (suc n) w s x y
counted-alike f g n (ended e) s x y = rw (s, x, y)
counted-alike f g n (stopped r) s x y = refl

-- the records met lie before the walk's end
places_inside :
    (f : List ℕ) (n at : ℕ) {b : Book} → At f n at → (w : Walk) → walk_from f n at ≡ w → counted f n w ≡ Ok b
    → (x : ℕ) → Memᴰ x (places_in w) → RecordAt f x × (next_place f x ≤ end_in w)
unfolding counted end_in places_in
places_inside f n at a (more p w) e c x i =
    let q = walk_met f n at a e in
    let z : Ended f (next_place f at) w = walk_ended f (suc n) (next_place f at) q.1.1.0 w q.1.1.1 c in
    ⊎_elim (λ (y : x ≡ p). rw (y ∙ q.0) (q.1.0, z.behind))
    (places_inside f (suc n) (next_place f at) q.1.1.0 w q.1.1.1 c x) (Memᴰ.cases_cons i)
places_inside f n at a (ended p) e c x i = absurd (Memᴰ.not-nil i)
places_inside f n at a (stopped r) e c x i = absurd (Memᴰ.not-nil i)

pub book_places :
    (f : List ℕ) {b : Book} → book_of f ≡ Ok b → (x : ℕ) → Memᴰ x (places_of f) → RecordAt f x × (next_place f x ≤ end_in (walk_of f))
unfolding places_of walk_of
book_places f h = places_inside f 0 first_record (at_first (book_accepted f h).long) (walk_of f) refl (walk-counted f h)

-- Two files that agree up to the end record of an accepted book, and have fillers after it.
module _ (f g : List ℕ) {b : Book} (h : book_of f ≡ Ok b) (s : Alike (end_in (walk_of f)) f g) where
  same-walk : walk_of g ≡ walk_of f
  unfolding walk_of
  same-walk =
      let e : Ended f first_record (walk_of f) = book_ended f h in
      walk-alike (end_in (walk_of f)) f g s 0 first_record (at_first (book_accepted f h).long) (at_first (omega (arith, e.behind, s.right))) (walk_of f) refl (walk-counted f h) (omega arith)

  texts-alike : (at : ℕ) → RecordAt f at → next_place f at ≤ end_in (walk_of f) → SameTexts f g (entry_at f at)
  texts-alike at r l =
      let e = entry_ends f at r in
      let t = text_then_note f at in
      record {
        text = stretch-alike (end_in (walk_of f)) f g s (entry_at f at).text (omega arith);
        note = stretch-alike (end_in (walk_of f)) f g s (entry_at f at).note (omega arith);
      }

  same-book : length g ≤ most_book_bytes → after_end_record g (end_in (walk_of f)) ≡ Ok tt → SameBook f g
  unfolding book_of places_of walk_of
  same-book l v =
      let e : Ended f first_record (walk_of f) = book_ended f h in
      let a : AcceptedBook f b = book_accepted f h in
      let m : ℕ = end_in (walk_of f) in
      let named : book_identified g ≡ true = named-alike m f g s e.behind ∙ a.named in
      let set : settings_ok g ≡ true = settings-ok-alike m f g s e.behind ∙ a.set in
      let settings : settings_of g ≡ settings_of f = settings-alike m f g s e.behind in
      let inside = book_places f h in
      record {
        book = is_ge l _ _ ∙ is_true named _ _ ∙ is_true set _ _ ∙ ap (counted g 0) same-walk ∙ counted-alike f g 0 (walk_of f) settings e.fine v ∙ walk-counted f h ∙ sym h;
        settings = settings;
        places = ap places_in same-walk;
        entry = λ at i. let r = inside at i in entry-alike m f g s at (omega (arith, r.1)) r.1;
        texts = λ at i. let r = inside at i in texts-alike at r.0 r.1;
      }

-- The book without its fillers: it ends with its end record, and is the same book.
module _ (f : List ℕ) {b : Book} (h : book_of f ≡ Ok b) where
  length-unfilled : length (unfilled f) ≡ end_in (walk_of f)
  unfolding unfilled
  length-unfilled = length-take-le (end_in (walk_of f)) f (book_ended f h).inside

  unfilled-alike : Alike (end_in (walk_of f)) f (unfilled f)
  unfolding unfilled
  unfilled-alike =
      record {
        left = (book_ended f h).inside;
        right = omega (arith, length-unfilled);
        bytes = sym (take-take (end_in (walk_of f)) (end_in (walk_of f)) f (omega arith));
      }

  pub unfilled-none : fillers_of (unfilled f) ≡ 0
  unfolding fillers_of
  unfilled-none = rw (same-walk f (unfilled f) h unfilled-alike) (omega (arith, length-unfilled))

  pub unfilled-same : SameBook f (unfilled f)
  unfilled-same =
      let l : length (unfilled f) ≡ end_in (walk_of f) = length-unfilled in
      same-book f (unfilled f) h unfilled-alike
      (omega (arith, (book_accepted f h).size, (book_ended f h).inside))
      (nothing_after (unfilled f) (end_in (walk_of f)) (omega arith))

-- A book that ends with its end record, with "0 to 127 bytes, all 1Ah", after it: still the same book.
pub filled-same :
    (f : List ℕ) {b : Book} (k : ℕ) → book_of f ≡ Ok b → fillers_of f ≡ 0 → k ≤ most_fillers → length f + k ≤ most_book_bytes
    → SameBook f (f ++ replicate k filler)
unfolding fillers_of after_end_record
filled-same f k h z l m =
    let e : Ended f first_record (walk_of f) = book_ended f h in
    let n : length f ≡ end_in (walk_of f) = omega (arith, e.inside) in
    let g : List ℕ = f ++ replicate k filler in
    let long : length g ≡ length f + k = length-append f (replicate k filler) ∙ ap (λ (x : ℕ). length f + x) (length-replicate k filler) in
    let left : length g - end_in (walk_of f) ≡ k = omega arith in
    let fillers : drop (end_in (walk_of f)) g ≡ replicate k filler = drop_at f (replicate k filler) (end_in (walk_of f)) n in
    same-book f g h
    (record { left = e.inside; right = omega arith; bytes = sym (take-append-le (end_in (walk_of f)) f (replicate k filler) e.inside) })
    (omega arith)
    (is_ge (omega arith) _ _ ∙ rw left (fillers_fine g k (end_in (walk_of f)) (omega arith) fillers))

pub same_entries : (f g : List ℕ) → SameBook f g → entries_of g ≡ entries_of f
unfolding entries_of
same_entries f g s = rw s.places (map_same (entry_at f) (entry_at g) (places_of f) s.entry)
