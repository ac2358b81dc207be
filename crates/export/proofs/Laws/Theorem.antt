-- Demand 3, proved: for any test of what shows, any bytes as a book, any first day and count, any buffer.
-- Assumes nothing.
use Rattle.std.specs.Prelude.{Result, Ok, ℕ, ◌+◌, ◌<◌, ◌≤◌, ◌≡◌, refl, Bool, true, false, take}
use Rattle.std.proofs.Common.{sym, ◌∙◌, arith}
use Rattle.std.proofs.Math.Path.{ap}
use mathlib.Core.List.{List, [], ◌∷◌, map}
use Rattle.std.proofs.Math.ListN.{length}
use Rattle.days.specs.Facts.{facts_of}
use Rattle.book.specs.Books.{book_of}
use Rattle.book.specs.Settings.{settings_of}
use Rattle.book.specs.declared.types.Book.{Book}
use Rattle.falls.specs.declared.types.ShortMonth.{ShortMonth}
use Rattle.pages.specs.Pages.{Numbered, record_times, start_of, page_of, page_on}
use Rattle.calendar.specs.File.{Appointment, Day, first_unit}
use Rattle.calendar.specs.Shown.{appointments_on}
use Rattle.calendar.specs.declared.types.CalendarSettings.{CalendarSettings}
use Rattle.calendar_writer.specs.DayLists.{days_with, past_last_block}
use Rattle.calendar_writer.proofs.Laws.TableRead.{GoodDays}
use Rattle.calendar_writer.proofs.Laws.FileRead.{file-counted, file-accepted, file-shows}
use Rattle.calendar_writer.proofs.Laws.Spans.{days-few, days-on, days-other, days-good}
use Rattle.export.specs.Export.{interval_of, settings_for, appointment_of, appointments_for, export_days, export_file, export_answer, export_leaves, shows_under}
use Rattle.export.specs.Demand.{listed, day_list, shown, file_size, StartsLate, SameDays, Sizes, Demand3}
use Rattle.export.proofs.Laws.Records.{good_book}
use Rattle.export.proofs.Laws.Appointments.{flag_alarm, good-size}
use Rattle.export.proofs.Laws.Sizes.{days-size, days-late, days-near}
use Rattle.export.proofs.Laws.Answers.{Span, facts-span, span-past, span-short, span_fits, answer-span, Success, export-success, left-file}
use Rattle.prelude.specs.declared.refusals.Refusal.{Refusal}

module _ (shows : ℕ → Numbered → Bool) (f : List ℕ) (first count : ℕ) where
  abbrev list : ℕ → List Appointment
  list d = appointments_for shows f (interval_of (settings_of f).granularity) d

  -- an appointment says of a record what its page says
  said : (interval : ℕ) (x : Numbered) → shown (appointment_of f interval x) ≡ listed f x
  unfolding appointment_of
  said interval x = rw (flag_alarm (record_times x).alarm interval (start_of x))

  all_said : (interval : ℕ) (xs : List Numbered) → map shown (map (appointment_of f interval) xs) ≡ map (listed f) xs
  all_said interval [] = refl
  all_said interval (x ∷ xs) = rw (said interval x, all_said interval xs)

  page-said : (d : ℕ) → map shown (list d) ≡ day_list shows f d
  unfolding appointments_for
  page-said d = all_said _ (page_of (shows d) f)

  -- the file, written or not
  pub same-days : {b : Book} → book_of f ≡ Ok b → Span first count → past_last_block (export_days shows f first count) ≡ false → SameDays shows f first count (export_file shows f first count)
  unfolding past_last_block export_days export_file
  same-days {b} e span past =
      let s : CalendarSettings = settings_for (settings_of f) in
      let ds : List Day = days_with list count first in
      let few : length ds < 65536 = omega (arith, days-few list count first) in
      let good : GoodDays 0 (first_unit (length ds)) ds = days-good list (good-size f (interval_of (settings_of f).granularity) (good_book f e) shows) count first 0 (first_unit (length ds)) (omega arith) span.end past in
      record {
        accepted = file-accepted s ds few good ∙ ap Ok (sym (file-counted s ds few));
        inside = λ d l h. ap (map shown) (file-shows s ds few good d ∙ days-on list count first d l h) ∙ page-said d;
        before = λ d l. file-shows s ds few good d ∙ days-other list count first d (λ m h. omega arith);
        after = λ d l. file-shows s ds few good d ∙ days-other list count first d (λ m h. omega arith);
      }

  -- the sizes of the days' lists are the export's
  export-size : length (export_file shows f first count) ≡ file_size (day_list shows f) first count
  unfolding export_file export_days
  export-size = days-size list (day_list shows f) page-said first count (settings_for (settings_of f))

  export-late : {k : ℕ} → StartsLate (day_list shows f) first count k → past_last_block (export_days shows f first count) ≡ true
  unfolding export_days
  export-late s = days-late list (day_list shows f) page-said first count s

  export-near : ((k : ℕ) → StartsLate (day_list shows f) first count k → ⊥) → past_last_block (export_days shows f first count) ≡ false
  unfolding export_days
  export-near none = days-near list (day_list shows f) page-said first count none

  span-sizes : (room : ℕ) {b : Book} → book_of f ≡ Ok b → Span first count → Sizes (day_list shows f) first count room (export_answer shows f first count room)
  span-sizes room e span =
      let q = answer-span shows f first count room e (facts-span span) in
      record {
        thirteen = λ k s. q ∙ span-past shows f first count room (export-late s);
        twelve = λ none l. q ∙ span-short shows f first count (export-near none) (omega (arith, export-size));
        written = λ none l. q ∙ span_fits shows f first count (export-near none) (omega (arith, export-size)) ∙ ap Ok export-size;
      }

  -- The theorem: for any bytes as a book, any first day and count, any buffer.
  pub demand3 : (out : List ℕ) → Demand3 shows f first count out (export_answer shows f first count (length out)) (export_leaves shows f first count out)
  demand3 out =
      record {
        sizes = λ b e day most end. span-sizes (length out) e (record { day = day; most = most; end = end });
        same =
            λ n h.
            let s : Success shows f first count (length out) n = export-success shows f first count (length out) n h in
            rw (left-file shows f first count out n h) (same-days s.accepted s.span s.near);
      }

  -- the same of an export as a contract describes it
  pub demand-3-promised : (out : List ℕ) {answer : Result ℕ Refusal} {left : List ℕ} → answer ≡ export_answer shows f first count (length out) → left ≡ export_leaves shows f first count out → Demand3 shows f first count out answer left
  demand-3-promised out a l = rw (a, l) (demand3 out)

-- Document 01's demand: what is written shows on each day of the span what that day's page lists, under either short-month choice.
pub each_day :
    (c : ShortMonth) (book : List ℕ) (first count : ℕ) (out : List ℕ) (n : ℕ) → export_answer (shows_under c) book first count (length out) ≡ Ok n
    → (d : ℕ) → first ≤ d → d < first + count
    → map shown (appointments_on (take n (export_leaves (shows_under c) book first count out)) d) ≡ map (listed book) (page_on c (facts_of d) book)
each_day c book first count out n h = ((demand3 (shows_under c) book first count out).same n h).inside
