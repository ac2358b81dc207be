-- Bytes after the end record change no answer, proved: each answer goes by what `SameBook` says of two files.
-- Assumes nothing.
use Rattle.std.specs.Prelude.{Result, Ok, Err, ℕ, ◌≡◌, List, length}
use Rattle.std.proofs.Math.Path.{refl, ap}
use Rattle.std.proofs.Common.{◌∙◌}
use Rattle.prelude.specs.declared.refusals.Refusal.{Refusal}
use Rattle.days.specs.declared.types.CalendarDay.{CalendarDay}
use Rattle.book.specs.Fillers.{unfilled}
use Rattle.book.specs.Books.{book_of}
use Rattle.book.specs.SameBook.{SameBook}
use Rattle.book.proofs.Laws.SameBook.{unfilled-same}
use Rattle.book.specs.declared.types.Book.{Book}
use Rattle.falls.specs.declared.types.ShortMonth.{ShortMonth}
use Rattle.pages.specs.Answers.{validated, falls_in, page_count_in, page_line_in, line_text, next_in}
use Rattle.pages.specs.declared.types.Ready.{Ready}
use Rattle.pages.specs.Pages.{falls_on}
use Rattle.reasons.specs.Answers.{why_in}
use Rattle.printing.specs.Answers.{page_length_in, print_in, print_leaves}
use Rattle.export.specs.Export.{span_answer, export_from, export_answer, export_leaves, shows_under}
use Rattle.commands.specs.Responses.{page_response, export_response, program_room, response}
use Rattle.commands.proofs.Laws.SameRecords.{record_same, text_same, note-same, note-lines-same, note-line-same}
use Rattle.commands.proofs.Laws.SameDays.{numbered-same, page-same, validated-same, line-text-same, page-text-same, days-same, file-same}
use Rattle.commands.specs.SameAnswers.{SameAnswers}
use Rattle.commands.specs.declared.types.Command.{Command}

module _ (f g : List ℕ) (s : SameBook f g) where
  -- an answer about a day, where it agrees once the day is validated
  on_day_lem :
      {X : Type 0} (d : CalendarDay) (p q : Result Ready Refusal → X) → ((a : Ready) → p (Ok a) ≡ q (Ok a))
      → ((e : Refusal) → p (Err e) ≡ q (Err e)) → p (validated g d) ≡ q (validated f d)
  on_day_lem d p q ready refused = rw (validated-same f g s d) (by (validated f d))
    where
      by : (v : Result Ready Refusal) → p v ≡ q v
      by (Ok a) = ready a
      by (Err e) = refused e

  export-same : (c : ShortMonth) (first count room : ℕ) → export_answer (shows_under c) g first count room ≡ export_answer (shows_under c) f first count room
  unfolding export_answer export_from span_answer
  export-same c first count room = ap (export_from (shows_under c) g first count room) s.book ∙ by (book_of f)
    where
      by : (b : Result Book Refusal) → export_from (shows_under c) g first count room b ≡ export_from (shows_under c) f first count room b
      by (Ok b) = rw (days-same f g s (shows_under c) first count, file-same f g s (shows_under c) first count)
      by (Err e) = refl

  program-same : (c : Command) → response g c ≡ response f c
  unfolding response page_response export_response
  program-same (Command.Page d c) =
      on_day_lem (record { 0 = d }) (page_response g c program_room) (page_response f c program_room) (λ a. rw (page-text-same f g s (falls_on c) a.facts)) (λ e. refl)
  program-same (Command.Export d n c) = rw (export-same c d n program_room, file-same f g s (shows_under c) d n)
  program-same Command.Unknown = rw s.book

  pub same-answers : SameAnswers f g
  unfolding falls_in why_in next_in page_count_in page_line_in line_text page_length_in print_in print_leaves export_leaves
  same-answers =
      record {
        book = s.book;
        entry = record_same f g s;
        text = text_same f g s;
        note = note-same f g s;
        note-lines = note-lines-same f g s;
        note-line = note-line-same f g s;
        falls = λ d c k. on_day_lem d (falls_in g c k) (falls_in f c k) (λ a. rw (numbered-same f g s)) (λ e. refl);
        why = λ d c k. on_day_lem d (why_in g c k) (why_in f c k) (λ a. rw (numbered-same f g s)) (λ e. refl);
        next = λ d shows k. on_day_lem d (next_in shows g k) (next_in shows f k) (λ a. rw (numbered-same f g s)) (λ e. refl);
        lines = λ d shows. on_day_lem d (page_count_in shows g) (page_count_in shows f) (λ a. rw (page-same f g s (shows a.facts))) (λ e. refl);
        line = λ d shows k. on_day_lem d (page_line_in shows g k) (page_line_in shows f k) (λ a. rw (page-same f g s (shows a.facts))) (λ e. refl);
        line-text =
            λ d shows k. on_day_lem d (λ v. line_text g (page_line_in shows g k v)) (λ v. line_text f (page_line_in shows f k v)) (λ a. line-text-same f g s (shows a.facts) a.facts k _ refl) (λ e. refl);
        print-length = λ d shows. on_day_lem d (page_length_in shows g) (page_length_in shows f) (λ a. rw (page-text-same f g s shows a.facts)) (λ e. refl);
        print = λ d shows room. on_day_lem d (print_in shows g room) (print_in shows f room) (λ a. rw (page-text-same f g s shows a.facts)) (λ e. refl);
        printed = λ d shows out. on_day_lem d (print_leaves shows g out) (print_leaves shows f out) (λ a. rw (page-text-same f g s shows a.facts)) (λ e. refl);
        export = export-same;
        exported = λ c first count out. rw (export-same c first count (length out), file-same f g s (shows_under c) first count);
        program = program-same;
      }

-- The theorem, for the book without its fillers.
pub fillers_unseen : (f : List ℕ) {b : Book} → book_of f ≡ Ok b → SameAnswers f (unfilled f)
fillers_unseen f h = same-answers f (unfilled f) (unfilled-same f h)
