-- What two files that are read as the same book give of days: the same pages, the same printed text and the same Calendar file.
-- Assumes nothing.
use Rattle.std.specs.Prelude.{Result, Ok, ℕ, zero, suc, ◌≡◌, refl, Bool}
use Rattle.std.proofs.Math.Path.{ap}
use Rattle.std.proofs.Common.{⊎_elim}
use mathlib.Core.List.Memᴰ
use mathlib.Core.List.{List, [], ◌∷◌, map, Memᴰ}
use Rattle.prelude.proofs.Laws.Members.{map_same}
use Rattle.sorting.specs.Keep.{keep}
use Rattle.sorting.specs.Order.{sort}
use Rattle.days.specs.declared.types.CalendarDay.{CalendarDay}
use Rattle.days.specs.declared.types.DayFacts.{DayFacts}
use Rattle.book.specs.Books.{entry_at, places_of, entries_of}
use Rattle.book.specs.Settings.{settings_of}
use Rattle.book.specs.SameBook.{SameBook}
use Rattle.book.proofs.Laws.SameBook.{same_entries}
use Rattle.book.specs.declared.types.Entry.{Entry}
use Rattle.pages.specs.Pages.{Numbered, numbered_from, numbered, start_of, page_of, page_line_of, nth}
use Rattle.pages.proofs.Laws.PageFacts.{page-passes}
use Rattle.pages.specs.Answers.{validated_day, validated, line_text}
use Rattle.printing.specs.Printed.{page_line, page_lines, printed, page_text}
use Rattle.calendar.specs.File.{Appointment}
use Rattle.calendar_writer.specs.DayLists.{days_with}
use Rattle.export.specs.Export.{interval_of, record_text, appointment_of, appointments_for, export_days, export_file}
use Rattle.prelude.specs.declared.refusals.Refusal.{Refusal}
use Rattle.pages.specs.declared.types.Line.{Line}

entry_member : {x : Numbered} (n : ℕ) (es : List Entry) → Memᴰ x (numbered_from n es) → Memᴰ x.entry es
unfolding numbered_from
entry_member n [] i = absurd (Memᴰ.not-nil i)
entry_member n (e ∷ es) i =
    ⊎_elim (λ q. Memᴰ.head (ap (λ (y : Numbered). y.entry) q)) (λ j. Memᴰ.tail (entry_member (suc n) es j)) (Memᴰ.cases_cons i)

-- records whose texts have the same bytes in both files
abbrev Texts : List ℕ → List ℕ → List Numbered → Type 0
Texts f g xs = (x : Numbered) → Memᴰ x xs → record_text g x ≡ record_text f x

rest : {f g : List ℕ} {x : Numbered} {xs : List Numbered} → Texts f g (x ∷ xs) → Texts f g xs
rest t y i = t y (Memᴰ.tail i)

line_along : (f g : List ℕ) (d : DayFacts) (xs : List Numbered) → Texts f g xs → (k : ℕ) (none : Result Line Refusal) → line_text g none ≡ line_text f none
    → line_text g (nth xs k none (λ x. Ok (page_line_of d x))) ≡ line_text f (nth xs k none (λ x. Ok (page_line_of d x)))
unfolding nth line_text page_line_of
line_along f g d [] t k none e = e
line_along f g d (x ∷ xs) t zero none e = t x (Memᴰ.head refl)
line_along f g d (x ∷ xs) t (suc k) none e = line_along f g d xs (rest t) k none e

lines_along : (f g : List ℕ) (d : DayFacts) (xs : List Numbered) → Texts f g xs → page_lines g (map (page_line_of d) xs) ≡ page_lines f (map (page_line_of d) xs)
unfolding page_lines page_line page_line_of
lines_along f g d [] t = refl
lines_along f g d (x ∷ xs) t = rw (t x (Memᴰ.head refl), lines_along f g d xs (rest t))

days_along : (l m : ℕ → List Appointment) → ((d : ℕ) → l d ≡ m d) → (count first : ℕ) → days_with l count first ≡ days_with m count first
unfolding days_with
days_along l m e zero first = refl
days_along l m e (suc count) first = rw (e first, days_along l m e count (suc first))

module _ (f g : List ℕ) (s : SameBook f g) where
  pub numbered-same : numbered g ≡ numbered f
  unfolding numbered
  numbered-same = ap (numbered_from 0) (same_entries f g s)

  pub page-same : (p : Numbered → Bool) → page_of p g ≡ page_of p f
  unfolding page_of
  page-same p = ap (λ (xs : List Numbered). sort start_of (keep p xs)) numbered-same

  page-texts : (p : Numbered → Bool) → Texts f g (page_of p f)
  unfolding numbered entries_of
  page-texts p x i =
      let r = Memᴰ.of_map (entry_at f) (places_of f) (entry_member 0 (entries_of f) (page-passes p f i).0) in
      rw r.2 at (s.texts r.0 r.1).text

  pub validated-same : (d : CalendarDay) → validated g d ≡ validated f d
  unfolding validated
  validated-same d = ap (validated_day d) s.book

  pub line-text-same : (p : Numbered → Bool) (d : DayFacts) (k : ℕ) (none : Result Line Refusal) → line_text g none ≡ line_text f none
      → line_text g (nth (page_of p g) k none (λ x. Ok (page_line_of d x))) ≡ line_text f (nth (page_of p f) k none (λ x. Ok (page_line_of d x)))
  line-text-same p d k none e = rw (page-same p) (line_along f g d (page_of p f) (page-texts p) k none e)

  pub page-text-same : (shows : DayFacts → Numbered → Bool) (d : DayFacts) → page_text shows g d ≡ page_text shows f d
  unfolding page_text printed
  page-text-same shows d = rw (page-same (shows d), lines_along f g d (page_of (shows d) f) (page-texts (shows d)))

  appointments-same : (shows : ℕ → Numbered → Bool) (i d : ℕ) → appointments_for shows g i d ≡ appointments_for shows f i d
  unfolding appointments_for appointment_of
  appointments-same shows i d = rw (page-same (shows d)) (map_same (appointment_of f i) (appointment_of g i) (page_of (shows d) f) (λ x m. rw (page-texts (shows d) x m)))

  pub days-same : (shows : ℕ → Numbered → Bool) (first count : ℕ) → export_days shows g first count ≡ export_days shows f first count
  unfolding export_days
  days-same shows first count =
      rw s.settings (days_along _ _ (appointments-same shows (interval_of (settings_of f).granularity)) count first)

  pub file-same : (shows : ℕ → Numbered → Bool) (first count : ℕ) → export_file shows g first count ≡ export_file shows f first count
  unfolding export_file
  file-same shows first count = rw (s.settings, days-same shows first count)
