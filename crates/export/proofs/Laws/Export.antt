-- From what the passes have to what the export is: its days, its file, and its answer.
-- Assumes nothing.
use Rattle.std.specs.Prelude.{Result, Ok, Err, ℕ, ◌<◌, ◌≤◌, ◌≡◌, Bool, List, map, length, take}
use Rattle.std.proofs.Math.Path.{refl, ap}
use Rattle.std.proofs.Common.{sym, ◌∙◌, arith, length-take-le, get_or-take}
use Rattle.std.proofs.lemmas.List.{length-replicate, get_or-replicate}
use mir.Val.{bool_byte}
use Rattle.prelude.specs.Bytes.{bit}
use Rattle.prelude.proofs.Laws.Choice.{b_elim, eq_elim, constructors_differ}
use Rattle.prelude.specs.declared.refusals.Refusal.{Refusal}
use Rattle.sorting.specs.Keep.{keep}
use Rattle.sorting.specs.Order.{sort}
use Rattle.sorting.specs.Codes.{minute_in}
use Rattle.days.specs.Days.{last_day}
use Rattle.days.specs.Facts.{facts_of}
use Rattle.days.specs.Answers.{facts_answer}
use Rattle.days.proofs.Laws.Answers.{facts-given, facts_in_lem}
use Rattle.days.specs.declared.types.DayFacts.{DayFacts}
use Rattle.day_steps.proofs.Laws.Moves.{facts_of-day_number}
use Rattle.day_steps.specs.Codes.{Spanned}
use Rattle.book.specs.Books.{book_of, most_records}
use Rattle.book.specs.Settings.{settings_of}
use Rattle.book.specs.Invariants.{AcceptedBook}
use Rattle.book.proofs.Laws.Books.{book_accepted}
use Rattle.book.proofs.Laws.Counts.{count_most}
use Rattle.book.specs.declared.types.Book.{Book}
use Rattle.pages.specs.Pages.{Numbered, numbered}
use Rattle.pages.specs.Codes.{code}
use Rattle.calendar.specs.File.{zeros, file_of}
use Rattle.calendar.specs.declared.types.CalendarSettings.{CalendarSettings}
use Rattle.calendar_writer.specs.DayLists.{days_with, past_last_block}
use Rattle.calendar_writer.specs.Sums.{measure_of, sum_up}
use Rattle.calendar_writer.proofs.Laws.Sums.{measure-sums}
use Rattle.calendar_writer.specs.declared.types.Measure.{Measure}
use Rattle.export.specs.Export.{interval_of, settings_for, appointments_for, export_days, export_file, sized, span_answer, export_from, export_answer, leaves_file, span_leaves, export_leaves}
use Rattle.export.proofs.Laws.Records.{good_book}
use Rattle.export.specs.Passes.{AtMost, kept_in, Weighed}
use Rattle.export.specs.Invariants.{MarksShown, ReadyToFill, Gathered}
use Rattle.export.proofs.Laws.Ready.{gathered_ordered, ready-sums}

interval_some : (g : ℕ) → 0 < interval_of g
unfolding interval_of
interval_some g =
    eq_elim (λ n. 0 < n) g 15 _ _ (λ _. omega arith) (λ _. eq_elim (λ n. 0 < n) g 60 _ _ (λ _. omega arith) (λ _. omega arith))

module _ (shows : ℕ → Numbered → Bool) (f : List ℕ) (first count : ℕ) {s : CalendarSettings} (e : s ≡ settings_for (settings_of f)) where
  interval-of : s.interval ≡ interval_of (settings_of f).granularity
  unfolding settings_for
  interval-of = ap (λ (z : CalendarSettings). z.interval) e

  pub settings-interval : 0 < s.interval
  settings-interval = rw interval-of (interval_some (settings_of f).granularity)

  pub export-days : days_with (appointments_for shows f s.interval) count first ≡ export_days shows f first count
  unfolding export_days
  export-days = rw interval-of

  pub export-file : file_of s (days_with (appointments_for shows f s.interval) count first) ≡ export_file shows f first count
  unfolding export_file
  export-file = rw (export-days, e)

-- what collecting leaves
module _ {f : List ℕ} {shows : ℕ → Numbered → Bool} {first : ℕ} {mark : ℕ → Numbered → Bool} {days sums codes : List ℕ} {b : Book} where
  pub collect-gathered :
      book_of f ≡ Ok b → Spanned first days → MarksShown f shows first mark days
      → codes ≡ map code (keep (kept_in mark (length days)) (numbered f)) → Weighed f mark days sums → Gathered f shows first mark days sums codes
  collect-gathered e s m k w =
      let a : AcceptedBook f b = book_accepted f e in
      record {
        records = b.records;
        counted = record { size = a.size; long = a.long; count = a.count };
        good = good_book f e;
        span = s;
        marks = m;
        weighed = w;
        kept = k;
      }

module _ {f : List ℕ} {shows : ℕ → Numbered → Bool} {first : ℕ} {mark : ℕ → Numbered → Bool} {days sums codes : List ℕ} (g : Gathered f shows first mark days sums codes) where
  pub gathered-measure : sum_up 0 0 0 0 sums ≡ measure_of (settings_for (settings_of f)) (export_days shows f first (length days))
  unfolding export_days
  gathered-measure =
      let r : ReadyToFill f shows first mark days sums (sort minute_in codes) = gathered_ordered g refl in
      let i = interval_of (settings_of f).granularity in
      measure-sums (appointments_for shows f i) (settings_for (settings_of f)) first sums (ready-sums r i)
      ∙ ap (λ (n : ℕ). measure_of (settings_for (settings_of f)) (days_with (appointments_for shows f i) n first)) g.weighed.long

  -- the measure of the export
  pub record Measures (m : Measure) : Type 0 where
    pub length-is : m.length ≡ length (export_file shows f first (length days))
    pub few : m.descriptors ≡ length (export_days shows f first (length days))
    pub past_is : m.past_last_block ≡ past_last_block (export_days shows f first (length days))

  pub gathered-measures : {m : Measure} → m ≡ sum_up 0 0 0 0 sums → Measures m
  unfolding export_file
  gathered-measures e =
      let q = e ∙ gathered-measure in
      record { length-is = ap (λ (x : Measure). x.length) q; few = ap (λ (x : Measure). x.descriptors) q; past_is = ap (λ (x : Measure). x.past_last_block) q }

-- a mark that the code takes as a number
pub mark_bit : (b : Bool) → bool_byte b ≡ bit b
unfolding bit
mark_bit b = b_elim (λ n. bool_byte b ≡ n) b 1 0 (λ h. rw h) (λ h. rw h)

-- the front of a list of zeros
pub length-take-zeros : (m n : ℕ) → n ≤ m → length (take n (zeros m)) ≡ n
length-take-zeros m n h = length-take-le n (zeros m) (rw (length-replicate {A = ℕ} m 0) h)

pub take-zeros_at_most : (m n : ℕ) → n ≤ m → AtMost 0 (take n (zeros m))
take-zeros_at_most m n h =
    record {
      each =
          λ k l.
          let i : k < n = omega (arith, length-take-zeros m n h) in
          omega (arith, get_or-take n (zeros m) k 0 i, get_or-replicate {A = ℕ} m k 0 0 (omega arith));
    }

-- a book has at most 4,680 records
pub records_most : (f : List ℕ) {b : Book} → book_of f ≡ Ok b → b.records ≤ most_records
records_most f {b} e =
    let a : AcceptedBook f b = book_accepted f e in
    omega (arith, count_most f a.long, a.size, a.count)

-- the facts of a span's first day
pub record First (first : ℕ) (g : DayFacts) : Type 0 where
  pub day : g.day.0 ≡ first
  pub facts : g ≡ facts_of g.day.0

pub first_facts : (first : ℕ) {g : DayFacts} → facts_answer (record { 0 = first }) ≡ Ok g → First first g
first_facts first {g} e =
    let q : facts_of first ≡ g = (facts-given e).1 in
    let d : g.day.0 ≡ first = ap (λ (x : DayFacts). x.day.0) (sym q) ∙ facts_of-day_number first in
    record { day = d; facts = sym q ∙ ap facts_of (sym d) }

pub first_day_not_refused : (first : ℕ) {r : Refusal} → first ≤ last_day → facts_answer (record { 0 = first }) ≡ Err r → ⊥
first_day_not_refused first h e = let q = sym (facts_in_lem (record { 0 = first }) h) ∙ e in constructors_differ cc

-- a span's answer and buffer, by the measure
module _ (shows : ℕ → Numbered → Bool) (f : List ℕ) (first count : ℕ) where
  pub span-answer-sized : (room : ℕ) {size : ℕ} {past : Bool} {r : Result ℕ Refusal} → past ≡ past_last_block (export_days shows f first count) → size ≡ length (export_file shows f first count) → r ≡ sized room past size → r ≡ span_answer shows f first count room
  unfolding span_answer
  span-answer-sized room p s e = e ∙ rw (p, s)

  pub span-leaves-from : (out : List ℕ) {left : List ℕ} {r : Result ℕ Refusal} → r ≡ span_answer shows f first count (length out) → left ≡ leaves_file (export_file shows f first count) out r → left ≡ span_leaves shows f first count out
  unfolding span_leaves
  span-leaves-from out e l = l ∙ ap (leaves_file (export_file shows f first count) out) e

  pub span-leaves-leaves-file : (out : List ℕ) {left : List ℕ} {r : Result ℕ Refusal} → r ≡ span_answer shows f first count (length out) → left ≡ span_leaves shows f first count out → left ≡ leaves_file (export_file shows f first count) out r
  unfolding span_leaves
  span-leaves-leaves-file out e l = l ∙ ap (leaves_file (export_file shows f first count) out) (sym e)

-- the answer and the buffer, once the book's own answer is known
module _ (shows : ℕ → Numbered → Bool) (f : List ℕ) (first count : ℕ) (out : List ℕ) where
  pub export-answer-from : {a : Result Book Refusal} {r : Result ℕ Refusal} → book_of f ≡ a → r ≡ export_from shows f first count (length out) a → r ≡ export_answer shows f first count (length out)
  unfolding export_answer
  export-answer-from q e = e ∙ ap (export_from shows f first count (length out)) (sym q)

  pub export-leaves-from : {r : Result ℕ Refusal} {left : List ℕ} → r ≡ export_answer shows f first count (length out) → left ≡ leaves_file (export_file shows f first count) out r → left ≡ export_leaves shows f first count out
  unfolding export_leaves
  export-leaves-from e l = l ∙ ap (leaves_file (export_file shows f first count) out) e
