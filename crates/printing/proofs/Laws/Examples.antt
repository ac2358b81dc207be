-- Document 01, "One whole case": the printed page of day 4,822, as the definitions compute it.
-- Assumes nothing.
use Rattle.std.specs.Prelude.{ℕ, ◌≡◌, refl, Bool, true, false, List, [], ◌∷◌, ◌++◌}
use Rattle.prelude.specs.Choice.{if_lt, if_eq, if_b}
use Rattle.sorting.specs.Keep.{keep}
use Rattle.sorting.specs.Order.{insert, sort}
use Rattle.digits.specs.Digits.{two, four, decimal_f, decimal}
use Rattle.days.specs.Dates.{leap, month_length, real}
use Rattle.days.specs.Facts.{facts_of}
use Rattle.days.proofs.Laws.Answers.{day_then_date, date-given}
use Rattle.days.specs.declared.types.DayFacts.{DayFacts}
use Rattle.texts.specs.Notes.{no_zero, lines_of, short_lines, note_ok}
use Rattle.records.specs.Fields.{dated_of, record_of, fixed_of}
use Rattle.records.specs.Ranges.{times_ok, dated_ok}
use Rattle.records.specs.Bodies.{lengths_fit, lengths_ok, fields_ok, texts_ok, judge_body}
use Rattle.book.specs.Walk.{judge_head, body_step, step_at, walk_f, walk_from, walk_of, places_in}
use Rattle.book.specs.Books.{entry_at, places_of, entries_of}
use Rattle.book.proofs.Laws.Examples.{case}
use Rattle.falls.specs.Falls.{dated_falls, falls}
use Rattle.falls.specs.Moved.{named_day, day_missing}
use Rattle.falls.specs.Times.{times_of}
use Rattle.falls.specs.declared.types.ShortMonth.{ShortMonth}
use Rattle.pages.proofs.Laws.SetP.{set_p}
use Rattle.pages.specs.Pages.{numbered_from, numbered, page_of, page_line_of, falls_on}
use Rattle.pages.specs.declared.types.Line.{Line}
use Rattle.printing.specs.Printed.{date_text, weekday_name, head_line, clock, moved_mark, page_line, page_lines, printed, page_text}

-- Monday, 15 March 1993
monday : DayFacts
monday = record { day = record { 0 = 4822 }; date = record { year = 1993; month = 3; day = 15 }; weekday = 2; length = 31 }

case_day : facts_of 4822 ≡ monday
unfolding facts_of monday month_length if_eq if_lt
case_day = rw ((date-given (day_then_date set_p.1.1.0)).1, set_p.1.1.1.0)

-- "1993-03-15 Mon 1", and "10:00-11:00 Dep"
abbrev pub case_head : List ℕ
case_head = 0x31 ∷ 0x39 ∷ 0x39 ∷ 0x33 ∷ 0x2D ∷ 0x30 ∷ 0x33 ∷ 0x2D ∷ 0x31 ∷ 0x35 ∷ 0x20 ∷ 0x4D ∷ 0x6F ∷ 0x6E ∷ 0x20 ∷ 0x31 ∷ 0x0A ∷ []

abbrev pub case_line : List ℕ
case_line = 0x31 ∷ 0x30 ∷ 0x3A ∷ 0x30 ∷ 0x30 ∷ 0x2D ∷ 0x31 ∷ 0x31 ∷ 0x3A ∷ 0x30 ∷ 0x30 ∷ 0x20 ∷ 0x44 ∷ 0x65 ∷ 0x70 ∷ 0x0A ∷ []

case-monday : page_text (falls_on ShortMonth.Skip) case monday ≡ case_head ++ case_line
unfolding monday page_text printed head_line date_text weekday_name clock moved_mark page_line page_lines two four decimal decimal_f page_of numbered numbered_from page_line_of named_day day_missing falls dated_falls times_of entries_of entry_at places_of places_in walk_of walk_from walk_f step_at judge_head body_step judge_body lengths_ok lengths_fit fields_ok texts_ok record_of dated_of fixed_of dated_ok times_ok real month_length leap no_zero note_ok lines_of short_lines keep sort insert if_lt if_eq if_b
case-monday = refl

pub case_page : page_text (falls_on ShortMonth.Skip) case (facts_of 4822) ≡ case_head ++ case_line
case_page = rw case_day case-monday

-- a line from 10:00 to 11:00 with a text of so many bytes
abbrev ten : Bool → ℕ → Line
ten moved n = record { number = 0; start = record { 0 = 600 }; end = record { 0 = 660 }; alarm = false; moved = moved; text = record { place = 27; length = n } }

-- "an empty text leaves the space before it"
pub empty_text : page_line case (ten false 0) ≡ 0x31 ∷ 0x30 ∷ 0x3A ∷ 0x30 ∷ 0x30 ∷ 0x2D ∷ 0x31 ∷ 0x31 ∷ 0x3A ∷ 0x30 ∷ 0x30 ∷ 0x20 ∷ 0x0A ∷ []
unfolding page_line clock moved_mark two if_b
empty_text = refl

-- R-7: "straight after the end time (`10:00-11:00* Dep`)"; and before the space of an empty text
pub moved_line : page_line case (ten true 3) ≡ 0x31 ∷ 0x30 ∷ 0x3A ∷ 0x30 ∷ 0x30 ∷ 0x2D ∷ 0x31 ∷ 0x31 ∷ 0x3A ∷ 0x30 ∷ 0x30 ∷ 0x2A ∷ 0x20 ∷ 0x44 ∷ 0x65 ∷ 0x70 ∷ 0x0A ∷ []
unfolding page_line clock moved_mark two if_b
moved_line = refl

pub moved_empty : page_line case (ten true 0) ≡ 0x31 ∷ 0x30 ∷ 0x3A ∷ 0x30 ∷ 0x30 ∷ 0x2D ∷ 0x31 ∷ 0x31 ∷ 0x3A ∷ 0x30 ∷ 0x30 ∷ 0x2A ∷ 0x20 ∷ 0x0A ∷ []
unfolding page_line clock moved_mark two if_b
moved_empty = refl
