-- What an accepted book says of each of its records, as the export takes them: start minute and text; and that all their texts are no longer than the book.
-- Assumes nothing.
use Rattle.std.specs.Prelude.{Ok, ℕ, zero, suc, ◌+◌, ◌≤◌, ◌≡◌, true, length, drop}
use Rattle.std.proofs.Common.{⊎_elim, arith, length-take}
use mathlib.Core.List.Memᴰ
use mathlib.Core.List.{List, [], ◌∷◌, Memᴰ}
use Rattle.prelude.proofs.Laws.Bytes.{part-part}
use Rattle.sorting.specs.Totals.{total}
use Rattle.sorting.proofs.Laws.Totals.{total-nil, total-cons}
use Rattle.days.specs.Days.{last_minute}
use Rattle.records.specs.Fields.{record_of, fixed_of, text_length, body_text}
use Rattle.records.specs.Ranges.{record_ok}
use Rattle.records.proofs.Laws.Ranges.{Within, record_facts}
use Rattle.records.proofs.Laws.Judged.{fixed_range, Judged, body_judged, text_long}
use Rattle.records.specs.declared.types.Record.{Record}
use Rattle.book.specs.Walk.{type_at, body_length_at, body_at, next_place}
use Rattle.book.specs.Books.{book_of, entry_at, places_of}
use Rattle.book.specs.Invariants.{RecordAt, AcceptedBook}
use Rattle.book.proofs.Laws.Books.{book_accepted, Cursor, cursor_first, Ahead, cursor-ahead}
use Rattle.book.specs.declared.types.Book.{Book}
use Rattle.falls.specs.Times.{times_of}
use Rattle.pages.specs.Pages.{Numbered}
use Rattle.pages.proofs.Laws.Pages.{numbered_at, numbered_first, numbered_end, numbered_cursor}
use Rattle.pages.specs.Invariants.{record_at}
use Rattle.export.specs.Export.{record_text}
use Rattle.export.specs.Invariants.{GoodRecord, size_of, GoodBook}

-- a record that is in range starts by 23:59
start_most : (r : Record) → record_ok r ≡ true → (times_of r).start.0 ≤ last_minute
unfolding times_of
start_most (Record.Dated d) h = (record_facts (Record.Dated d) h).times.starts
start_most (Record.Weekly w) h = (record_facts (Record.Weekly w) h).1.times.starts
start_most (Record.MonthlyByDate m) h = (record_facts (Record.MonthlyByDate m) h).1.times.starts
start_most (Record.MonthlyByPosition m) h = (record_facts (Record.MonthlyByPosition m) h).2.times.starts
start_most (Record.Yearly y) h = (record_facts (Record.Yearly y) h).2.times.starts
start_most (Record.ToDo t) h = omega arith

record Taken (f : List ℕ) (n at : ℕ) : Type 0 where
  good : GoodRecord f (record_at f n at)
  size : size_of f (record_at f n at) ≤ 3 + body_length_at f at

taken : (f : List ℕ) (n at : ℕ) → RecordAt f at → Taken f n at
unfolding entry_at
taken f n at r =
    let t : ℕ = type_at f at in
    let p : List ℕ = body_at f at in
    let j : Judged t p = body_judged t p r.fine in
    let most : length p ≤ body_length_at f at = rw (length-take (body_length_at f at) (drop (at + 3) f)) (omega arith) in
    let long : length (body_text t p) ≡ text_length t p = text_long t p (omega (arith, j.fits)) in
    let same : body_text t p ≡ record_text f (record_at f n at) = part-part f (at + 3) (body_length_at f at) (fixed_of t) (text_length t p) (omega (arith, j.fits)) in
    let fixed : Within 11 (fixed_of t) 17 = fixed_range t in
    record {
      good =
          record {
            minute = start_most (record_of t p) j.sound;
            short = rw (← same) (omega (arith, j.text-most));
            clean = rw (← same) j.text;
          };
      size = rw (← same) (omega (arith, j.fits));
    }

-- the records from the n-th on, which stands at a place: each is good, and all of them fit into what is left of the book
record GoodAhead (f : List ℕ) (n at : ℕ) : Type 0 where
  each : (x : Numbered) → Memᴰ x (numbered_at f n) → GoodRecord f x
  sum : at + total (size_of f) (numbered_at f n) ≤ length f

ahead_good : (f : List ℕ) (k n at : ℕ) → n + k ≡ length (places_of f) → Cursor f n at → GoodAhead f n at
ahead_good f zero n at e c =
    let none : numbered_at f n ≡ [] = numbered_end f n (omega arith) in
    record {
      each = λ x m. absurd (Memᴰ.not-nil (rw none at m));
      sum = rw (none, total-nil (size_of f)) (omega (arith, c.here.high));
    }
ahead_good f (suc k) n at e c =
    let a : Ahead f n at = cursor-ahead f n at c (omega arith) in
    let t : Taken f n at = taken f n at a.entry in
    let more : numbered_at f n ≡ record_at f n at ∷ numbered_at f (suc n) = (numbered_cursor f n at c (omega arith)).more in
    let i : GoodAhead f (suc n) (next_place f at) = ahead_good f k (suc n) (next_place f at) (omega arith) a.next in
    record {
      each = λ x m. ⊎_elim (λ (q : x ≡ record_at f n at). rw q t.good) (i.each x) (Memᴰ.cases_cons (rw more at m));
      sum = rw (more, total-cons (size_of f) (record_at f n at) (numbered_at f (suc n))) (omega (arith, i.sum, t.size));
    }

pub good_book : (f : List ℕ) {b : Book} → book_of f ≡ Ok b → GoodBook f
good_book f {b} e =
    let a : AcceptedBook f b = book_accepted f e in
    let g : GoodAhead f 0 12 = ahead_good f (length (places_of f)) 0 12 (omega arith) (cursor_first f a.long) in
    record { each = rw (numbered_first f) g.each; sum = rw (numbered_first f) (omega (arith, g.sum, a.size)) }
