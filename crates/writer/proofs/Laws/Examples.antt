-- Document 01, "One whole case": the book of 33 bytes is plain, and is written again as it was.
-- Assumes nothing.
use Rattle.std.specs.Prelude.{◌≡◌, refl, take, drop}
use Rattle.std.proofs.Common.{arith}
use Rattle.prelude.specs.Choice.{if_lt, if_eq, if_b}
use Rattle.prelude.proofs.Laws.Bytes.{bytes_append}
use Rattle.days.specs.Dates.{leap, month_length, real}
use Rattle.texts.specs.Notes.{no_zero, lines_of, short_lines, note_ok}
use Rattle.records.specs.Fields.{dated_of, fixed_of}
use Rattle.records.specs.Ranges.{times_ok, dated_ok}
use Rattle.records.specs.Bodies.{lengths_fit, lengths_ok, fields_ok, texts_ok, judge_body}
use Rattle.records.specs.Encoding.{plain_state}
use Rattle.book.specs.Walk.{judge_head, body_step, step_at, walk_f, walk_from, walk_of, places_in}
use Rattle.book.specs.Fillers.{end_in, fillers_of}
use Rattle.book.specs.Books.{places_of}
use Rattle.book.proofs.Laws.Examples.{case, case_book, case-accepted}
use Rattle.writer.specs.Runs.{book_bytes}
use Rattle.writer.specs.Again.{items_of, Plain}
use Rattle.writer.proofs.Laws.SameBytes.{same_bytes}

pub case_plain : Plain case
unfolding fillers_of end_in places_of places_in plain_state walk_of walk_from walk_f step_at judge_head body_step judge_body lengths_ok lengths_fit fields_ok texts_ok dated_of fixed_of dated_ok times_ok real month_length leap no_zero note_ok lines_of short_lines if_lt if_eq if_b
case_plain = record { each = (record { tight = refl; named = refl }, tt); no-fillers = refl }

pub case_again : book_bytes case_book.settings (items_of case) ≡ case
case_again = same_bytes case (bytes_append (take 16 case) (drop 16 case) (omega arith) (omega arith)) case-accepted case_plain
