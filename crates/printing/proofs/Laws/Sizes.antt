-- How large a printed page can be: each record takes more bytes of its book than of a page, so that a page never passes 65,535.
-- Assumes nothing.
use Rattle.std.specs.Prelude.{ℕ, zero, suc, ◌+◌, ◌*◌, ◌<◌, ◌≤◌, ◌≡◌, Bool, true, false, List, map, length}
use Rattle.std.proofs.Common.{sym, ap, ◌∙◌, add-one, zero-add, arith, length-append, length-take, length-drop}
use Rattle.std.proofs.lemmas.Bool.{false≢true}
use Rattle.std.proofs.lemmas.List.{length-map}
use Rattle.prelude.specs.Bytes.{bit, stretch_bytes}
use Rattle.prelude.specs.Choice.{if_eq}
use Rattle.prelude.proofs.Laws.Bytes.{bit_most}
use Rattle.prelude.proofs.Laws.Choice.{bool_cases, eq_elim, b_elim, lt_take}
use Rattle.sorting.specs.Keep.{keep}
use Rattle.sorting.specs.Order.{sort}
use Rattle.sorting.specs.Totals.{total}
use Rattle.sorting.proofs.Laws.Totals.{total-nil, total-cons, total-sort}
use Rattle.digits.specs.Digits.{decimal}
use Rattle.digits.proofs.Laws.Decimal.{length_below}
use Rattle.days.specs.declared.types.DayFacts.{DayFacts}
use Rattle.texts.specs.Notes.{most_text}
use Rattle.records.specs.Fields.{record_of, fixed_of, text_length, note_length}
use Rattle.records.proofs.Laws.Judged.{Judged, body_judged, fixed_range}
use Rattle.book.specs.Walk.{type_at, body_length_at, body_at, next_place}
use Rattle.book.specs.Books.{places_of, entry_at}
use Rattle.book.specs.Invariants.{RecordAt}
use Rattle.book.proofs.Laws.Books.{Cursor, cursor_first, Ahead, cursor-ahead}
use Rattle.book.specs.Settings.{first_record}
use Rattle.falls.specs.Moved.{named_day, day_missing}
use Rattle.falls.proofs.Laws.Moved.{named_type}
use Rattle.pages.specs.Pages.{Numbered, numbered, start_of, page_of, page_line_of}
use Rattle.pages.specs.Invariants.{ReadyBook, record_at}
use Rattle.pages.proofs.Laws.Pages.{numbered_at, numbered_first, Turn, numbered_cursor, keep-numbered-yes, keep-numbered-no, keep-numbered_end, length_page}
use Rattle.pages.specs.declared.types.Ready.{Ready}
use Rattle.printing.specs.Printed.{head_line, page_lines, printed, page_text}
use Rattle.printing.proofs.Laws.Printed.{length_head, line_size, line_size_lem, length-lines, length-coded}

-- the size of a page by its records in the book's order
pub page_bytes : (p : Numbered → Bool) (f : List ℕ) (d : DayFacts) → length (page_lines f (map (page_line_of d) (page_of p f))) ≡ total (line_size f d) (keep p (numbered f))
unfolding page_of
page_bytes p f d = length-lines f d (sort start_of (keep p (numbered f))) ∙ total-sort (line_size f d) start_of (keep p (numbered f))

pub page_size :
    (shows : DayFacts → Numbered → Bool) (f : List ℕ) (d : DayFacts)
    → length (page_text shows f d) ≡ 16 + length (decimal (length (page_of (shows d) f))) + length (page_lines f (map (page_line_of d) (page_of (shows d) f)))
unfolding page_text printed
page_size shows f d =
    let ls = map (page_line_of d) (page_of (shows d) f) in
    length-append (head_line d (length ls)) (page_lines f ls)
    ∙ rw (length-map (page_of (shows d) f) (page_line_of d), length_head d (length (page_of (shows d) f)))

-- a record that can be moved has 16 fixed bytes or more
missing_fixed : (d : DayFacts) (t : ℕ) (p : List ℕ) → day_missing d (record_of t p) ≡ true → 16 ≤ fixed_of t
unfolding day_missing fixed_of if_eq
missing_fixed d t p h =
    eq_elim (λ z. d.length < z → 16 ≤ fixed_of t) t 3 _ _ (λ e _. rw e (omega arith))
    (λ _. eq_elim (λ z. d.length < z → 16 ≤ fixed_of t) t 5 _ _ (λ e _. rw e (omega arith)) (λ _ l. absurd (omega arith)))
    (rw (named_type t p) at (lt_take d.length (named_day (record_of t p)) true false false≢true h).0)

-- so that the mark has room
mark_fixed : (d : DayFacts) (t : ℕ) (p : List ℕ) → 11 + bit (day_missing d (record_of t p)) ≤ fixed_of t
unfolding bit
mark_fixed d t p =
    let x = fixed_range t in
    b_elim (λ b. 11 + b ≤ fixed_of t) (day_missing d (record_of t p)) 1 0 (λ h. let m = missing_fixed d t p h in omega arith) (λ h. omega arith)

-- a record's bytes in its book, and on the page of a day
record Smaller (f : List ℕ) (d : DayFacts) (n at : ℕ) : Type 0 where
  less : line_size f d (record_at f n at) < 3 + body_length_at f at
  most : line_size f d (record_at f n at) ≤ 41

smaller : (f : List ℕ) (d : DayFacts) (n at : ℕ) → RecordAt f at → Smaller f d n at
unfolding entry_at
smaller f d n at r =
    let t = type_at f at in
    let p = body_at f at in
    let j : Judged t p = body_judged t p r.fine in
    let l : length p ≤ body_length_at f at = simp (length-take, length-drop) (omega arith) in
    let s : length (stretch_bytes f (entry_at f at).text) ≤ text_length t p = simp (length-take, length-drop) (omega arith) in
    let b : fixed_of t + text_length t p + note_length t p ≤ length p = j.fits in
    let m : text_length t p ≤ most_text = j.text-most in
    let x = mark_fixed d t p in
    let y = bit_most (day_missing d (record_of t p)) in
    let e = line_size_lem f d (record_at f n at) in
    record { less = omega arith; most = omega arith }

-- the records from a place on: together they are smaller than what is left of the book
record Bounded (f : List ℕ) (d : DayFacts) (at : ℕ) (xs : List Numbered) : Type 0 where
  less : total (line_size f d) xs + length xs + at ≤ length f
  most : total (line_size f d) xs ≤ 41 * length xs

module _ (f : List ℕ) (d : DayFacts) (p : Numbered → Bool) where
  bounded : (k n at : ℕ) → Cursor f n at → n + k ≡ length (places_of f) → Bounded f d at (keep p (numbered_at f n))
  bounded zero n at c e =
      let h = c.here.high in
      rw (keep-numbered_end f n p (omega arith)) (record { less = rw (total-nil (line_size f d)) (omega arith); most = rw (total-nil (line_size f d)) (omega arith) })
  bounded (suc k) n at c e =
      let h : n < length (places_of f) = omega arith in
      let a : Ahead f n at = cursor-ahead f n at c h in
      let t : Turn f n at = numbered_cursor f n at c h in
      let s : Smaller f d n at = smaller f d n at a.entry in
      let b : Bounded f d (next_place f at) (keep p (numbered_at f (suc n))) = bounded k (suc n) (next_place f at) a.next (omega arith) in
      let q = total-cons (line_size f d) (record_at f n at) (keep p (numbered_at f (suc n))) in
      bool_cases (p (record_at f n at))
      (λ y. rw (keep-numbered-yes f n at t p y) (record { less = omega arith; most = omega arith }))
      (λ y. rw (keep-numbered-no f n at t p y) (record { less = omega arith; most = omega arith }))

  -- all records of a book that pass
  pub book-most : first_record ≤ length f → (total (line_size f d) (keep p (numbered f)) + length (keep p (numbered f)) + first_record ≤ length f) × (total (line_size f d) (keep p (numbered f)) ≤ 41 * length (keep p (numbered f)))
  book-most h =
      let b : Bounded f d first_record (keep p (numbered_at f 0)) = bounded (length (places_of f)) 0 first_record (cursor_first f h) (omega arith) in
      rw (numbered_first f) (b.less, b.most)

-- "12" never happens with 65,535 bytes of room
pub page_most : (shows : DayFacts → Numbered → Bool) (f : List ℕ) (a : Ready) → ReadyBook f a → length (page_text shows f a.facts) ≤ 65535
page_most shows f a r =
    let p : Numbered → Bool = shows a.facts in
    let b = book-most f a.facts p r.long in
    let l = length_page p f in
    let s = page_bytes p f a.facts in
    let d = length_below 4 (length (page_of p f)) (omega arith) in
    rw (page_size shows f a.facts) (omega arith)

pub ruleset page_sizes = (page_size, page_most, length-coded)

-- So much is counted of the records before n that pass, and what those from n on add.
pub record Counted (f : List ℕ) (d : DayFacts) (p : Numbered → Bool) (n lines bytes : ℕ) : Type 0 where
  pub lines_left : length (keep p (numbered f)) ≡ lines + length (keep p (numbered_at f n))
  pub bytes_left : total (line_size f d) (keep p (numbered f)) ≡ bytes + total (line_size f d) (keep p (numbered_at f n))

module _ (f : List ℕ) (d : DayFacts) (p : Numbered → Bool) where
  pub counted_start : Counted f d p 0 0 0
  counted_start =
      record {
        lines_left = ap (λ (xs : List Numbered). length (keep p xs)) (numbered_first f) ∙ sym (zero-add _);
        bytes_left = ap (λ (xs : List Numbered). total (line_size f d) (keep p xs)) (numbered_first f) ∙ sym (zero-add _);
      }

  -- the next record, where it passes and where it does not
  module _ {n at lines bytes : ℕ} (t : Turn f n at) (k : Counted f d p n lines bytes) where
    pub counted-yes :
        {size : ℕ} → p (record_at f n at) ≡ true → size ≡ 13 + bit (day_missing d (entry_at f at).«record») + length (stretch_bytes f (entry_at f at).text)
        → Counted f d p (n + 1) (lines + 1) (bytes + size)
    counted-yes h e =
        let one = keep-numbered-yes f n at t p h in
        let l = ap (length {A = Numbered}) one in
        let b = ap (total (line_size f d)) one ∙ total-cons (line_size f d) (record_at f n at) (keep p (numbered_at f (suc n))) in
        let z = line_size_lem f d (record_at f n at) in
        rw (add-one n) (record { lines_left = omega (arith, k.lines_left, l); bytes_left = omega (arith, k.bytes_left, b, z, e) })

    pub counted-no : p (record_at f n at) ≡ false → Counted f d p (n + 1) lines bytes
    counted-no h =
        let none = keep-numbered-no f n at t p h in
        let l = ap (length {A = Numbered}) none in
        let b = ap (total (line_size f d)) none in
        rw (add-one n) (record { lines_left = omega (arith, k.lines_left, l); bytes_left = omega (arith, k.bytes_left, b) })

  -- what is counted is never more than a page has
  pub counted_most : {n lines bytes : ℕ} → first_record ≤ length f → length f ≤ 65535 → Counted f d p n lines bytes → (lines ≤ 65535) × (bytes ≤ 65535)
  counted_most h s k =
      let b = book-most f d p h in
      (omega (arith, k.lines_left, b.0), omega (arith, k.bytes_left, b.0))

  -- all is counted
  pub counted_end :
      {n lines bytes : ℕ} → length (places_of f) ≤ n → Counted f d p n lines bytes
      → (lines ≡ length (page_of p f)) × (bytes ≡ length (page_lines f (map (page_line_of d) (page_of p f))))
  counted_end {n} h k =
      let none = keep-numbered_end f n p h in
      let l = ap (length {A = Numbered}) none in
      let b = ap (total (line_size f d)) none ∙ total-nil (line_size f d) in
      (omega (arith, k.lines_left, l, length_page p f), omega (arith, k.bytes_left, b, page_bytes p f d))
