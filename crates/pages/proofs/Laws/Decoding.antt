-- A page is what its codes decode to.
-- Assumes nothing.
use Rattle.std.specs.Prelude.{ℕ, suc, ◌+◌, ◌<◌, ◌≤◌, ◌≡◌, refl, Bool, length, get_or}
use Rattle.std.proofs.Common.{sym, ◌∙◌, ap, ⊎_elim, arith, add-zero}
use mathlib.Core.List.Memᴰ
use mathlib.Core.List.{List, [], ◌∷◌, map, Memᴰ}
use Rattle.sorting.proofs.Laws.Keep.{keep-member}
use Rattle.sorting.proofs.Laws.Order.{sort-member}
use Rattle.book.specs.Books.{entry_at, places_of, entries_of, most_book_bytes}
use Rattle.book.proofs.Laws.Books.{Ahead, cursor-ahead}
use Rattle.book.proofs.Laws.Counts.{count_most}
use Rattle.book.proofs.Laws.Entries.{Reached, entry_reached}
use Rattle.book.specs.Settings.{first_record}
use Rattle.falls.specs.Times.{times_of}
use Rattle.pages.specs.Pages.{Numbered, numbered_from, numbered, start_of, page_of}
use Rattle.pages.specs.Codes.{code_with, code, number_in, place_in, decode}
use Rattle.pages.proofs.Laws.Codes.{code_at}
use Rattle.pages.specs.Invariants.{record_at}

-- where a record of a book comes from: the k-th place
pub record Placed (f ps : List ℕ) (n : ℕ) (x : Numbered) : Type 0 where
  pub index : ℕ
  pub inside : index < length ps
  pub here : x ≡ record_at f (n + index) (get_or ps index 0)

placed_from : (f : List ℕ) (n : ℕ) (ps : List ℕ) {x : Numbered} → Memᴰ x (numbered_from n (map (entry_at f) ps)) → Placed f ps n x
unfolding numbered_from
placed_from f n [] m = absurd (Memᴰ.not-nil m)
placed_from f n (p ∷ ps) {x} m =
    ⊎_elim
    (λ (e : x ≡ record_at f n p). record { index = 0; inside = omega arith; here = e ∙ ap (λ (k : ℕ). record_at f k p) (sym (add-zero n)) })
    (λ (t : Memᴰ x (numbered_from (suc n) (map (entry_at f) ps))).
    let r : Placed f ps (suc n) x = placed_from f (suc n) ps t in
    let e : suc n + r.index ≡ n + suc r.index = omega arith in
    record { index = suc r.index; inside = omega (arith, r.inside); here = r.here ∙ ap (λ (k : ℕ). record_at f k (get_or ps r.index 0)) e })
    (Memᴰ.cases_cons m)

-- a record of a book has its number and stands at its place
pub code_placed : (f : List ℕ) {x : Numbered} → Memᴰ x (numbered f) → Placed f (places_of f) 0 x
unfolding numbered entries_of
code_placed f m = placed_from f 0 (places_of f) m

pub place_inside : (f : List ℕ) → first_record ≤ length f → (k : ℕ) → k < length (places_of f) → get_or (places_of f) k 0 ≤ length f
place_inside f h k l =
    let r : Reached f k = entry_reached f h k (omega arith) in
    let a : Ahead f k r.at = cursor-ahead f k r.at r.cursor l in
    omega (arith, a.place, r.cursor.here.high)

same_record : (f : List ℕ) {n m at at' : ℕ} → n ≡ m → at ≡ at' → record_at f n at ≡ record_at f m at'
same_record f p q = λ i. record { number = p i; entry = entry_at f (q i) }

decode_at : (f : List ℕ) (n at : ℕ) → n < 65536 → at < 65536 → decode f (code (record_at f n at)) ≡ record_at f n at
unfolding decode
decode_at f n at h k =
    let s = (times_of (entry_at f at).«record»).start.0 in
    let e : code (record_at f n at) ≡ code_with s n at = code_at f n at h k in
    let a : number_in (code (record_at f n at)) ≡ n = rw e (omega arith) in
    let b : place_in (code (record_at f n at)) ≡ at = rw e (omega arith) in
    same_record f a b

module _ (f : List ℕ) (long : first_record ≤ length f) (size : length f ≤ most_book_bytes) where
  decode-placed : {x : Numbered} → Placed f (places_of f) 0 x → decode f (code x) ≡ x
  decode-placed {x} r =
      let i = r.inside in
      let m = count_most f long in
      let p = place_inside f long r.index r.inside in
      let h = r.here in
      rw h (decode_at f (0 + r.index) (get_or (places_of f) r.index 0) (omega arith) (omega arith))

  decode-all : (xs : List Numbered) → ((x : Numbered) → Memᴰ x xs → Placed f (places_of f) 0 x) → map (decode f) (map code xs) ≡ xs
  decode-all [] h = refl
  decode-all (x ∷ xs) h = rw (decode-placed (h x (Memᴰ.head refl)), decode-all xs (λ y m. h y (Memᴰ.tail m)))

  -- a page's records come from the book
  pub page-placed : (p : Numbered → Bool) {x : Numbered} → Memᴰ x (page_of p f) → Placed f (places_of f) 0 x
  unfolding page_of
  page-placed p m = code_placed f (keep-member p (sort-member start_of m)).0

  pub page-decoded : (p : Numbered → Bool) → map (decode f) (map code (page_of p f)) ≡ page_of p f
  page-decoded p = decode-all (page_of p f) (λ x m. page-placed p m)
