-- A whole run: what one that is not refused leaves, and when it is not refused.
-- Assumes nothing.
use Rattle.std.specs.Prelude.{Ok, ℕ, ◌+◌, ◌≤◌, ◌≡◌, refl, true, List, [], ◌∷◌, ◌++◌, length, take}
use Rattle.std.proofs.Common.{sym, ◌∙◌, ap, append_assoc, arith, zero-add, length-append}
use Rattle.prelude.specs.Splice.{splice}
use Rattle.prelude.proofs.Laws.Splice.{length-splice, take-splice, splice-splice, splice-then}
use Rattle.book.specs.Settings.{settings_in_range, first_record}
use Rattle.book.specs.declared.types.Settings.{Settings}
use Rattle.book.specs.Books.{most_book_bytes}
use Rattle.writer.specs.Writing.{open_bytes, end_bytes, open_refusal, open_gives, open_leaves, add_refusal, add_gives, add_leaves, close_refusal, close_gives, close_leaves}
use Rattle.writer.specs.Runs.{Item, done, finish, adds, writing, record_bytes, book_bytes, rest_bytes, item_bytes, closed_at, Items, opened, Written}
use Rattle.writer.proofs.Laws.Calls.{Room, length_open, call-done-refusal-zero, call-zero-goes, open_facts, facts_open, add_facts, facts_add, close_facts, facts_close}
use Rattle.writer.specs.declared.types.Writer.{Writer}

-- The run by its calls.
finish_done : (at : ℕ) (b : List ℕ) {w : Writer} {b' : List ℕ} → finish (opened at) b ≡ done w b' → (close_refusal (opened at) (length b) ≡ Ok tt) × (done (closed_at (at + 3)) (splice b at end_bytes) ≡ done w b')
unfolding finish close_gives close_leaves
finish_done at b e = call-done-refusal-zero (close_refusal (opened at) (length b)) (closed_at (at + 3)) (opened at) b at end_bytes (λ v c. done v c) e

finish_goes : (at : ℕ) (b : List ℕ) → close_refusal (opened at) (length b) ≡ Ok tt → finish (opened at) b ≡ done (closed_at (at + 3)) (splice b at end_bytes)
unfolding finish close_gives close_leaves
finish_goes at b e = call-zero-goes (close_refusal (opened at) (length b)) (closed_at (at + 3)) (opened at) b at end_bytes (λ v c. done v c) e

add_done :
    (i : Item) (is : List Item) (at : ℕ) (b : List ℕ) {w : Writer} {b' : List ℕ} → adds (i ∷ is) (opened at) b ≡ done w b'
    → (add_refusal (opened at) (length b) i.kind i.text i.note ≡ Ok tt) × (adds is (opened (at + length (item_bytes i))) (splice b at (item_bytes i)) ≡ done w b')
unfolding adds add_gives add_leaves
add_done i is at b e = call-done-refusal-zero (add_refusal (opened at) (length b) i.kind i.text i.note) (opened (at + length (item_bytes i))) (opened at) b at (item_bytes i) (λ v c. adds is v c) e

add_goes :
    (i : Item) (is : List Item) (at : ℕ) (b : List ℕ) → add_refusal (opened at) (length b) i.kind i.text i.note ≡ Ok tt
    → adds (i ∷ is) (opened at) b ≡ adds is (opened (at + length (item_bytes i))) (splice b at (item_bytes i))
unfolding adds add_gives add_leaves
add_goes i is at b e = call-zero-goes (add_refusal (opened at) (length b) i.kind i.text i.note) (opened (at + length (item_bytes i))) (opened at) b at (item_bytes i) (λ v c. adds is v c) e

done_writer : {v w : Writer} {a b : List ℕ} → done v a ≡ done w b → w ≡ v
done_writer e = cc

done_buffer : {v w : Writer} {a b : List ℕ} → done v a ≡ done w b → b ≡ a
done_buffer e = cc

-- the records and the end record, written from a place on
record Added (is : List Item) (at : ℕ) (b : List ℕ) (w : Writer) (b' : List ℕ) : Type 0 where
  fine : Items is
  room : at + length (rest_bytes is) ≤ length b
  book : at + length (rest_bytes is) ≤ most_book_bytes
  state : w ≡ closed_at (at + length (rest_bytes is))
  bytes : b' ≡ splice b at (rest_bytes is)

-- one item more: its bytes, and then those of the others
pub rest_item : (i : Item) (is : List Item) → rest_bytes (i ∷ is) ≡ item_bytes i ++ rest_bytes is
unfolding record_bytes
rest_item i is = append_assoc (item_bytes i) (record_bytes is) end_bytes

rest-length : (i : Item) (is : List Item) → length (rest_bytes (i ∷ is)) ≡ length (item_bytes i) + length (rest_bytes is)
rest-length i is = ap length (rest_item i is) ∙ length-append (item_bytes i) (rest_bytes is)

adds_done : (is : List Item) (at : ℕ) (b : List ℕ) (w : Writer) (b' : List ℕ) → adds is (opened at) b ≡ done w b' → Added is at b w b'
unfolding adds record_bytes
adds_done [] at b w b' e =
    let f = finish_done at b e in
    let r : Room (length b) at = close_facts (opened at) (length b) f.0 in
    record { fine = tt; room = r.buffer; book = r.book; state = done_writer f.1; bytes = done_buffer f.1 }
adds_done (i ∷ is) at b w b' e =
    let f = add_done i is at b e in
    let p = add_facts (opened at) (length b) i f.0 in
    let r : Room (length b) (at + length (item_bytes i)) = p.1 in
    let g : Added is (at + length (item_bytes i)) (splice b at (item_bytes i)) w b' =
    adds_done is (at + length (item_bytes i)) (splice b at (item_bytes i)) w b' f.1 in
    let l : length (splice b at (item_bytes i)) ≡ length b = length-splice b at (item_bytes i) (omega arith) in
    let m = rest-length i is in
    let n : at + length (item_bytes i) + length (rest_bytes is) ≡ at + length (rest_bytes (i ∷ is)) = omega arith in
    record {
      fine = (p.0, g.fine);
      room = omega arith;
      book = omega arith;
      state = g.state ∙ ap closed_at n;
      bytes = g.bytes ∙ splice-splice b at (item_bytes i) (rest_bytes is) (omega arith) ∙ ap (splice b at) (sym (rest_item i is));
    }

adds_goes :
    (is : List Item) (at : ℕ) (b : List ℕ) → first_record ≤ at → Items is → at + length (rest_bytes is) ≤ length b → at + length (rest_bytes is) ≤ most_book_bytes
    → adds is (opened at) b ≡ done (closed_at (at + length (rest_bytes is))) (splice b at (rest_bytes is))
unfolding adds record_bytes
adds_goes [] at b h f r k = finish_goes at b (facts_close at (length b) h (record { buffer = r; book = k }))
adds_goes (i ∷ is) at b h f r k =
    let m = rest-length i is in
    let o : 3 ≤ length (rest_bytes is) = rw (length-append (record_bytes is) end_bytes) (omega arith) in
    let n : at + length (item_bytes i) + length (rest_bytes is) ≡ at + length (rest_bytes (i ∷ is)) = omega arith in
    let l : length (splice b at (item_bytes i)) ≡ length b = length-splice b at (item_bytes i) (omega arith) in
    let a = facts_add at (length b) i h f.0 (record { buffer = omega arith; book = omega arith }) in
    let g = adds_goes is (at + length (item_bytes i)) (splice b at (item_bytes i)) (omega arith) f.1 (omega arith) (omega arith) in
    let t = splice-splice b at (item_bytes i) (rest_bytes is) (omega arith) ∙ ap (splice b at) (sym (rest_item i is)) in
    add_goes i is at b a ∙ g ∙ (λ j. done (closed_at (n j)) (t j))

book_parts : (s : Settings) (is : List Item) → book_bytes s is ≡ open_bytes s ++ rest_bytes is
unfolding book_bytes
book_parts s is = refl

pub length_book : (s : Settings) (is : List Item) → length (book_bytes s is) ≡ 12 + length (rest_bytes is)
length_book s is = ap length (book_parts s is) ∙ length-append (open_bytes s) (rest_bytes is) ∙ rw (length_open s)

module _ (s : Settings) (is : List Item) (b : List ℕ) where
  open_done : {w : Writer} {b' : List ℕ} → writing s is b ≡ done w b' → (open_refusal s (length b) ≡ Ok tt) × (adds is (opened first_record) (splice b 0 (open_bytes s)) ≡ done w b')
  unfolding writing open_gives open_leaves
  open_done e = call-done-refusal-zero (open_refusal s (length b)) (opened first_record) (opened 0) b 0 (open_bytes s) (λ v c. adds is v c) e

  open-goes : open_refusal s (length b) ≡ Ok tt → writing s is b ≡ adds is (opened first_record) (splice b 0 (open_bytes s))
  unfolding writing open_gives open_leaves
  open-goes e = call-zero-goes (open_refusal s (length b)) (opened first_record) (opened 0) b 0 (open_bytes s) (λ v c. adds is v c) e

  -- the opening bytes and then the rest are the book
  both : splice (splice b 0 (open_bytes s)) 12 (rest_bytes is) ≡ splice b 0 (book_bytes s is)
  both =
      splice-then b 0 (open_bytes s) (rest_bytes is) 12 _ _ (omega arith) (omega (arith, length_open s)) refl refl
      ∙ ap (splice b 0) (sym (book_parts s is))

  opened-length : 15 ≤ length b → length (splice b 0 (open_bytes s)) ≡ length b
  opened-length h = length-splice b 0 (open_bytes s) (omega (arith, length_open s))

  -- What a run that is not refused leaves: the book's bytes at the buffer's start.
  pub writing-done : (w : Writer) (b' : List ℕ) → writing s is b ≡ done w b' → Written s is b w b'
  writing-done w b' e =
      let f = open_done e in
      let p = open_facts s (length b) f.0 in
      let g : Added is 12 (splice b 0 (open_bytes s)) w b' = adds_done is 12 (splice b 0 (open_bytes s)) w b' f.1 in
      let l = opened-length p.1 in
      let n = length_book s is in
      let u : w ≡ closed_at (length (book_bytes s is)) = g.state ∙ ap closed_at (sym n) in
      let v : b' ≡ splice b 0 (book_bytes s is) = g.bytes ∙ both in
      record {
        settings = p.0;
        items = g.fine;
        state = u;
        buffer = v;
        book = rw (u, v) (ap (λ k. take k (splice b 0 (book_bytes s is))) (sym (zero-add (length (book_bytes s is)))) ∙ take-splice b 0 (book_bytes s is) (omega arith));
        room = omega arith;
        size = omega arith;
      }

  -- When a run is not refused.
  pub writing-goes :
      settings_in_range s ≡ true → Items is → length (book_bytes s is) ≤ length b → length (book_bytes s is) ≤ most_book_bytes
      → writing s is b ≡ done (closed_at (length (book_bytes s is))) (splice b 0 (book_bytes s is))
  writing-goes h f r k =
      let n = length_book s is in
      let o : 3 ≤ length (rest_bytes is) = rw (length-append (record_bytes is) end_bytes) (omega arith) in
      let l = opened-length (omega arith) in
      let g = adds_goes is 12 (splice b 0 (open_bytes s)) (omega arith) f (omega arith) (omega arith) in
      open-goes (facts_open s (length b) h (omega arith)) ∙ g ∙ (λ j. done (closed_at (sym n j)) (both j))
