-- The records of an accepted book on the days of a span: what the passes keep and weigh is what the export shows.
-- Assumes nothing.
use Prim.Native.Nat.{ℕ, zero, suc, ◌+◌, ◌<◌, ◌≤◌}
use Rattle.std.specs.Prelude.{◌≡◌, Bool, true, false, length, get_or, drop}
use Rattle.std.proofs.Math.Path.{refl, ap}
use Rattle.std.proofs.Common.{sym, ◌∙◌, true≢false, length-drop, length-take-le}
use mathlib.Core.List.{List, [], ◌∷◌, Memᴰ}
use native.Mathlib.Omega.{arith}
use Rattle.prelude.proofs.Laws.Bytes.{bit_most}
use Rattle.prelude.specs.Bytes.{bit}
use Rattle.prelude.proofs.Laws.Choice.{is_true, is_false, bool_cases, lt_elim}
use Rattle.sorting.specs.Keep.{keep}
use Rattle.sorting.proofs.Laws.Keep.{keep-nil, keep-yes, keep-no, keep-member}
use Rattle.sorting.specs.Order.{sort}
use Rattle.sorting.proofs.Laws.Order.{keep-sort}
use Rattle.sorting.specs.Totals.{total}
use Rattle.sorting.proofs.Laws.Totals.{total-keep}
use Rattle.day_steps.specs.Codes.{Spanned}
use Rattle.day_steps.proofs.Laws.Codes.{facts_known}
use Rattle.records.proofs.Laws.Judged.{Judged, body_judged}
use Rattle.book.specs.Walk.{type_at, body_at}
use Rattle.book.specs.Books.{entry_at, places_of, most_book_bytes}
use Rattle.book.specs.Invariants.{RecordAt}
use Rattle.book.proofs.Laws.Entries.{Inside, entry_inside, record_there}
use Rattle.falls.specs.declared.types.ShortMonth.{ShortMonth}
use Rattle.occurrences.proofs.Laws.Rules.{rule-falls}
use Rattle.pages.specs.Pages.{Numbered, numbered, record_times, start_of, page_of}
use Rattle.pages.proofs.Laws.Decoding.{Placed, code_placed}
use Rattle.calendar_writer.specs.Sums.{sum_of, Sum}
use Rattle.calendar_writer.proofs.Laws.Sums.{sum_parts}
use Rattle.export.specs.Export.{record_text, appointments_for, shows_under}
use Rattle.export.specs.Invariants.{size_of, GoodBook, MarksShown}
use Rattle.export.proofs.Laws.Appointments.{length-for, bytes-for, alarms-for}
use Rattle.export.specs.Passes.{some_day, CountedBook, Sound, marked, kept_in, weighs, Weighed}

-- some day of a span passes, or none
module _ (p : ℕ → Bool) where
  pub some-day-true : (n k : ℕ) → k < n → p k ≡ true → some_day p n ≡ true
  unfolding some_day
  some-day-true zero k h e = absurd (omega arith)
  some-day-true (suc n) k h e =
      bool_cases (p n) (λ t. is_true t _ _)
      (λ t. is_false t _ _ ∙ lt_elim {X = Unit {0}} (λ _. some_day p n ≡ true) k n tt tt (λ l. some-day-true n k l e)
      (λ l. let z : k ≡ n = omega arith in absurd (true≢false (sym (rw z at e) ∙ t))))

  pub some-day-false : (n : ℕ) → ((k : ℕ) → k < n → p k ≡ false) → some_day p n ≡ false
  unfolding some_day
  some-day-false zero h = refl
  some-day-false (suc n) h = is_false (h n (omega arith)) _ _ ∙ some-day-false n (λ k l. h k (omega arith))

-- a record that the walk judged fine
pub sound_at : (f : List ℕ) (at : ℕ) → length f ≤ most_book_bytes → RecordAt f at → Sound f at
unfolding entry_at
sound_at f at h r =
    let j : Judged (type_at f at) (body_at f at) = body_judged (type_at f at) (body_at f at) r.fine in
    let i : Inside f (entry_at f at) = entry_inside f at r in
    record { place = omega (arith, r.body); fine = j.sound; text = omega (arith, i.text, i.note); short = j.text-most }

module _ {f : List ℕ} {n : ℕ} (b : CountedBook f n) where
  -- each record of the book is such a one
  pub record Whole (x : Numbered) : Type 0 where
    pub at : ℕ
    pub entry : x.entry ≡ entry_at f at
    pub sound : Sound f at

  pub book-whole : {x : Numbered} → Memᴰ x (numbered f) → Whole x
  book-whole {x} m =
      let p : Placed f (places_of f) 0 x = code_placed f m in
      let at = get_or (places_of f) p.index 0 in
      record {
        at = at;
        entry = ap (λ (y : Numbered). y.entry) p.here;
        sound = sound_at f at b.size (record_there f b.long p.index p.inside);
      }

  -- its text is as long as it says
  pub text_long : {x : Numbered} → Whole x → length (record_text f x) ≡ x.entry.text.length
  text_long {x} w =
      rw w.entry (length-take-le (entry_at f w.at).text.length (drop (entry_at f w.at).text.place f) (rw (length-drop (entry_at f w.at).text.place f) (omega (arith, w.sound.text))))

  -- by its rule it is marked where it falls
  pub marked-shows : {first : ℕ} {days : List ℕ} → Spanned first days → (c : ShortMonth) → MarksShown f (shows_under c) first (marked c days) days
  marked-shows {first} s c =
      record {
        each =
            λ k l x m.
            let w : Whole x = book-whole m in
            rw (s.each k l) (rule-falls c (facts_known (first + k) (omega (arith, s.end))) x.entry.«record» (rw w.entry w.sound.fine));
      }

-- lists that keep the same
keep_same : {A : Type 0} (p q : A → Bool) (xs : List A) → ((x : A) → Memᴰ x xs → p x ≡ q x) → keep p xs ≡ keep q xs
unfolding keep
keep_same p q [] e = refl
keep_same p q (x ∷ xs) e = rw (e x (Memᴰ.head refl), keep_same p q xs (λ y m. e y (Memᴰ.tail m)))

keep-keep : {A : Type 0} (p q : A → Bool) (xs : List A) → ((x : A) → p x ≡ true → q x ≡ true) → keep p (keep q xs) ≡ keep p xs
keep-keep p q [] h = rw (keep-nil q)
keep-keep p q (x ∷ xs) h =
    bool_cases (q x)
    (λ t. rw (keep-yes q x xs t) (bool_cases (p x) (λ u. rw (keep-yes p x _ u, keep-yes p x _ u, keep-keep p q xs h)) (λ u. rw (keep-no p x _ u, keep-no p x _ u) (keep-keep p q xs h))))
    (λ t. rw (keep-no q x xs t) (bool_cases (p x) (λ u. absurd (true≢false (sym (h x u) ∙ t))) (λ u. rw (keep-no p x _ u) (keep-keep p q xs h))))

total-same : {A : Type 0} (w v : A → ℕ) (xs : List A) → ((x : A) → Memᴰ x xs → w x ≡ v x) → total w xs ≡ total v xs
unfolding total
total-same w v [] e = refl
total-same w v (x ∷ xs) e = rw (e x (Memᴰ.head refl), total-same w v xs (λ y m. e y (Memᴰ.tail m)))

-- the kept records, in order: each day finds its own among them
pub kept_page : (f : List ℕ) (mark : ℕ → Numbered → Bool) (n k : ℕ) → k < n → keep (mark k) (page_of (kept_in mark n) f) ≡ page_of (mark k) f
unfolding page_of
kept_page f mark n k l =
    keep-sort start_of (mark k) (keep (kept_in mark n) (numbered f))
    ∙ ap (sort start_of) (keep-keep (mark k) (kept_in mark n) (numbered f) (λ x h. some-day-true (λ j. mark j x) n k l h))

-- what a sum of weights holds
weights : (f : List ℕ) (xs : List Numbered) → total (λ x. sum_of 1 (bit (record_times x).alarm) (size_of f x)) xs ≡ sum_of (length xs) (total (λ x. bit (record_times x).alarm) xs) (total (size_of f) xs)
unfolding total
weights f [] = refl
weights f (x ∷ xs) = omega (arith, weights f xs)

few_alarms : (f : List ℕ) (xs : List Numbered) → total (λ x. bit (record_times x).alarm) xs ≤ total (size_of f) xs
unfolding total
few_alarms f [] = omega arith
few_alarms f (x ∷ xs) = omega (arith, few_alarms f xs, bit_most (record_times x).alarm)

module _ {f : List ℕ} {shows : ℕ → Numbered → Bool} {first : ℕ} {mark : ℕ → Numbered → Bool} {days : List ℕ} (marks : MarksShown f shows first mark days) where
  pub same_kept : (k : ℕ) → k < length days → keep (mark k) (numbered f) ≡ keep (shows (first + k)) (numbered f)
  same_kept k l = keep_same (mark k) (shows (first + k)) (numbered f) (marks.each k l)

  pub same-page : (k : ℕ) → k < length days → page_of (mark k) f ≡ page_of (shows (first + k)) f
  unfolding page_of
  same-page k l = ap (sort start_of) (same_kept k l)

  -- the sum of a day's weights is the sum of its appointments
  pub weighed-sum :
      {n : ℕ} → CountedBook f n → GoodBook f → (interval : ℕ) {sums : List ℕ} → Weighed f mark days sums
      → (k : ℕ) → k < length days → Sum (get_or sums k 0) (appointments_for shows f interval (first + k))
  weighed-sum b good interval {sums} w k l =
      let d = first + k in
      let xs = keep (shows d) (numbered f) in
      let same : (x : Numbered) → Memᴰ x xs → weighs x ≡ sum_of 1 (bit (record_times x).alarm) (size_of f x) =
      λ x m. rw (text_long b (book-whole b (keep-member (shows d) m).0)) in
      let e : get_or sums k 0 ≡ sum_of (length xs) (total (λ x. bit (record_times x).alarm) xs) (total (size_of f) xs) =
      w.each k l ∙ ap (total weighs) (same_kept k l) ∙ total-same weighs _ xs same ∙ weights f xs in
      let most : total (size_of f) xs ≤ 65535 = omega (arith, total-keep (size_of f) (shows d) (numbered f), good.sum) in
      let p = sum_parts (length xs) (total (λ x. bit (record_times x).alarm) xs) (total (size_of f) xs) e (few_alarms f xs) most in
      record {
        count = p.0 ∙ sym (length-for shows f interval d);
        alarm = p.1 ∙ sym (alarms-for shows f interval d);
        bytes = p.2 ∙ sym (bytes-for shows f interval d);
      }
