-- Bytes after the end record change no answer (document 02, request R-1): what every call on an accepted book gives, it gives of the book without its fillers.
-- Assumes nothing.
use Rattle.std.specs.Prelude.{ℕ, ◌≡◌, Bool, List}
use Rattle.days.specs.declared.types.CalendarDay.{CalendarDay}
use Rattle.days.specs.declared.types.DayFacts.{DayFacts}
use Rattle.book.specs.Books.{book_of, record_answer, record_text_in, record_note_in}
use Rattle.book.specs.Lines.{lines_answer, line_answer}
use Rattle.falls.specs.declared.types.ShortMonth.{ShortMonth}
use Rattle.pages.specs.Answers.{line_text, page_count, page_line_at, next_occurrence, record_falls}
use Rattle.pages.specs.Pages.{Numbered}
use Rattle.reasons.specs.Answers.{record_why}
use Rattle.printing.specs.Answers.{page_length, print_gives, print_left}
use Rattle.export.specs.Export.{export_answer, export_leaves, shows_under}
use Rattle.commands.specs.Responses.{response}
use Rattle.commands.specs.declared.types.Command.{Command}

-- every call on a book, and the program, give of g what they give of f
pub record SameAnswers (f g : List ℕ) : Type 0 where
  -- the book, a record, its text and note, the note's lines
  pub book : book_of g ≡ book_of f
  pub entry : (k : ℕ) → record_answer g k ≡ record_answer f k
  pub text : (k : ℕ) → record_text_in g (record_answer g k) ≡ record_text_in f (record_answer f k)
  pub note : (k : ℕ) → record_note_in g (record_answer g k) ≡ record_note_in f (record_answer f k)
  pub note-lines : (k : ℕ) → lines_answer g k ≡ lines_answer f k
  pub note-line : (k j : ℕ) → line_answer g k j ≡ line_answer f k j
  -- falls on, why, next occurrence
  pub falls : (d : CalendarDay) (c : ShortMonth) (k : ℕ) → record_falls g c d k ≡ record_falls f c d k
  pub why : (d : CalendarDay) (c : ShortMonth) (k : ℕ) → record_why g c d k ≡ record_why f c d k
  pub next : (d : CalendarDay) (shows : DayFacts → Numbered → Bool) (k : ℕ) → next_occurrence shows g d k ≡ next_occurrence shows f d k
  -- a page: its number of lines, a line and its text; printed: its length, the answer and the buffer
  pub lines : (d : CalendarDay) (shows : DayFacts → Numbered → Bool) → page_count shows g d ≡ page_count shows f d
  pub line : (d : CalendarDay) (shows : DayFacts → Numbered → Bool) (k : ℕ) → page_line_at shows g d k ≡ page_line_at shows f d k
  pub line-text : (d : CalendarDay) (shows : DayFacts → Numbered → Bool) (k : ℕ) → line_text g (page_line_at shows g d k) ≡ line_text f (page_line_at shows f d k)
  pub print-length : (d : CalendarDay) (shows : DayFacts → Numbered → Bool) → page_length shows g d ≡ page_length shows f d
  pub print : (d : CalendarDay) (shows : DayFacts → Numbered → Bool) (room : ℕ) → print_gives shows g d room ≡ print_gives shows f d room
  pub printed : (d : CalendarDay) (shows : DayFacts → Numbered → Bool) (out : List ℕ) → print_left shows g d out ≡ print_left shows f d out
  -- the export: the answer and the buffer
  pub export : (c : ShortMonth) (first count room : ℕ) → export_answer (shows_under c) g first count room ≡ export_answer (shows_under c) f first count room
  pub exported : (c : ShortMonth) (first count : ℕ) (out : List ℕ) → export_leaves (shows_under c) g first count out ≡ export_leaves (shows_under c) f first count out
  -- the program
  pub program : (c : Command) → response g c ≡ response f c
