-- `export_days` meets its contract: what is collected measures the export, the answer goes by the measure, and what fits is filled.
use Rattle.std.proofs.Common.{Result, Ok, List, ap, arith, length, map, refl, sym, ℕ, ◌∙◌, ◌≡◌}
use Rattle.prelude.specs.Splice.{splice}
use Rattle.prelude.specs.declared.refusals.Refusal.{Refusal}
use Rattle.prelude.proofs.Laws.Results.{err_passed}
use Rattle.sorting.specs.Keep.{keep}
use Rattle.day_steps.specs.Codes.{Spanned}
use Rattle.falls.specs.declared.types.ShortMonth.{ShortMonth}
use Rattle.book.specs.Books.{book_of}
use Rattle.book.specs.declared.types.Book.{Book}
use Rattle.book.proofs.Laws.Books.{book_accepted}
use Rattle.pages.specs.Pages.{numbered}
use Rattle.pages.specs.Codes.{code}
use Rattle.calendar_writer.specs.DayLists.{past_last_block}
use Rattle.calendar_writer.specs.Sums.{sum_up}
use Rattle.calendar_writer.specs.declared.types.Measure.{Measure}
use Rattle.book.specs.Settings.{settings_of}
use Rattle.calendar.specs.declared.types.CalendarSettings.{CalendarSettings}
use Rattle.pages.proofs.Laws.Codes.{ordered-front}
use Rattle.export.specs.Export.{export_days, export_file, settings_for, sized, span_answer, leaves_file, shows_under}
use Rattle.export.proofs.Laws.Ready.{gathered_ordered}
use Rattle.export.proofs.Laws.Answers.{span-written}
use Rattle.export.specs.Passes.{CountedBook, kept_in, marked, Weighed}
use Rattle.export.specs.Invariants.{Gathered}
use Rattle.export.proofs.Laws.Books.{marked-shows}
use Rattle.export.proofs.Laws.Export.{collect-gathered, export-days, export-file, Measures, gathered-measures, settings-interval, span-answer-sized, span-leaves-from}
use Rattle.export.proofs.working.export_days.Goals as goal

counted : {f : List ℕ} {b : Book} → book_of f ≡ Ok b → CountedBook f b.records
counted e = let a = book_accepted _ e in record { size = a.size; long = a.long; count = a.count }

-- What collecting leaves, and what is measured and answered by it for so many days.
module _ {f : List ℕ} (c : ShortMonth) {first : ℕ} {b : Book} (e : book_of f ≡ Ok b) {days sums codes : List ℕ} (s : Spanned first days) (k : codes ≡ map code (keep (kept_in (marked c days) (length days)) (numbered f))) (w : Weighed f (marked c days) days sums) where
  gathers : Gathered f (shows_under c) first (marked c days) days sums codes
  gathers = collect-gathered e s (marked-shows (counted e) s c) k w

  module _ {m : Measure} (q : m ≡ sum_up 0 0 0 0 sums) where
    measures : Measures gathers m
    measures = gathered-measures gathers q

    answered : {count : ℕ} (room : ℕ) {r : Result ℕ Refusal} → length days ≡ count → r ≡ sized room m.past_last_block m.length → r ≡ span_answer (shows_under c) f first count room
    answered {count} room l h =
        span-answer-sized (shows_under c) f first count room
        (measures.past_is ∙ ap (λ (n : ℕ). past_last_block (export_days (shows_under c) f first n)) l)
        (measures.length-is ∙ ap (λ (n : ℕ). length (export_file (shows_under c) f first n)) l) h

pub collect-n-requires-clause-counted_book : goal.collect-n-requires-clause-counted_book
collect-n-requires-clause-counted_book c = counted c.requires.valid_request.book

-- The settings are those of the book, and its file is the one that is asked.
made : (f : List ℕ) {b : Book} {s : CalendarSettings} → book_of f ≡ Ok b → s ≡ settings_for b.settings → s ≡ settings_for (settings_of f)
made f e h = h ∙ ap settings_for (book_accepted f e).settings

pub invariant_of-filling : goal.invariant_of-filling
invariant_of-filling c =
    record { some = settings-interval (shows_under c.args.q.choice) c.args.file.now c.args.q.first.day.0 (length c.pack_days.new.days) (made c.args.file.now c.requires.valid_request.book c.settings_for.ensures) }

pub put_file-requires-clause-ready_to_fill : goal.put_file-requires-clause-ready_to_fill
put_file-requires-clause-ready_to_fill c =
    rw c.from.ensures
    (gathered_ordered (gathers c.args.q.choice c.requires.valid_request.book c.pack_days.ensures c.collect-n.ensures.codes_after c.collect-n.ensures.weighed)
    (ordered-front c.collect-n.new.codes c.collect-n.result (omega (arith, c.collect-n.ensures.upper_bound)) c.order_codes.ensures))

pub put_file-requires-clause-n_value : goal.put_file-requires-clause-n_value
put_file-requires-clause-n_value c =
    let few = (measures c.args.q.choice c.requires.valid_request.book c.pack_days.ensures c.collect-n.ensures.codes_after c.collect-n.ensures.weighed c.measure-m.ensures).few in
    rw c.from.ensures
    (few ∙ ap length (sym (export-days (shows_under c.args.q.choice) c.args.file.now c.args.q.first.day.0 (length c.pack_days.new.days) (made c.args.file.now c.requires.valid_request.book c.settings_for.ensures))))

pub put_file-requires-clause-first_in_bounds : goal.put_file-requires-clause-first_in_bounds
put_file-requires-clause-first_in_bounds c =
    let a = answered c.args.q.choice c.requires.valid_request.book c.pack_days.ensures c.collect-n.ensures.codes_after c.collect-n.ensures.weighed c.measure-m.ensures (length c.args.out.now) refl c.answer_for.ensures in
    let fits = span-written (shows_under c.args.q.choice) c.args.file.now c.args.q.first.day.0 (length c.pack_days.new.days) (length c.args.out.now) _ (sym a ∙ c.in_ok-length.was) in
    rw c.from.ensures
    (omega (arith, fits.1, fits.2, ap length (export-file (shows_under c.args.q.choice) c.args.file.now c.args.q.first.day.0 (length c.pack_days.new.days) (made c.args.file.now c.requires.valid_request.book c.settings_for.ensures))))

pub returns-in_err-length : goal.returns-in_err-length
unfolding leaves_file
returns-in_err-length c =
    let a = answered c.args.q.choice c.requires.valid_request.book c.pack_days.ensures c.collect-n.ensures.codes_after c.collect-n.ensures.weighed c.measure-m.ensures (length c.args.out.now) c.pack_days.auto.days c.answer_for.ensures in
    let p = err_passed c.from_residual.ensures.1 in
    let v = p ∙ sym c.in_err-length.was ∙ a in
    record { value = v; out_after = span-leaves-from (shows_under c.args.q.choice) c.args.file.now c.args.q.first.day.0 (length c.args.days.now) c.args.out.now v (rw p) }

pub returns : goal.returns
unfolding leaves_file
returns c =
    let a = answered c.args.q.choice c.requires.valid_request.book c.pack_days.ensures c.collect-n.ensures.codes_after c.collect-n.ensures.weighed c.measure-m.ensures (length c.args.out.now) c.pack_days.auto.days c.answer_for.ensures in
    let v = sym c.in_ok-length.was ∙ a in
    let file = ap (λ (n : ℕ). splice c.args.out.now 0 (export_file (shows_under c.args.q.choice) c.args.file.now c.args.q.first.day.0 n)) c.pack_days.auto.days in
    let put = rw c.from.ensures at c.put_file.ensures.put in
    let whole = ap (splice c.args.out.now 0) (export-file (shows_under c.args.q.choice) c.args.file.now c.args.q.first.day.0 (length c.pack_days.new.days) (made c.args.file.now c.requires.valid_request.book c.settings_for.ensures)) in
    record { value = v; out_after = span-leaves-from (shows_under c.args.q.choice) c.args.file.now c.args.q.first.day.0 (length c.args.days.now) c.args.out.now v (put ∙ whole ∙ file) }
