-- Document 01, "One whole case": the book of 33 bytes, as the definitions read it; with bytes after its end record, document 02, request R-1.
-- Assumes nothing.
use Rattle.std.specs.Prelude.{Ok, Err, ℕ, ◌≡◌, refl, true, false, List, [], ◌∷◌, ◌++◌, replicate}
use Rattle.prelude.specs.Choice.{if_lt, if_eq, if_b}
use Rattle.prelude.specs.Refusals.{after_end, refusal_at}
use Rattle.days.specs.Dates.{leap, month_length, real}
use Rattle.texts.specs.Notes.{no_zero, lines_of, short_lines, note_ok}
use Rattle.records.specs.Fields.{dated_of, record_of, fixed_of}
use Rattle.records.specs.Ranges.{times_ok, dated_ok}
use Rattle.records.specs.Bodies.{lengths_fit, lengths_ok, fields_ok, texts_ok, judge_body}
use Rattle.records.specs.declared.types.Record.{Record}
use Rattle.book.specs.Settings.{book_mark, book_identified, settings_in_range, settings_of, flags_ok, settings_ok}
use Rattle.book.specs.Walk.{judge_head, body_step, step_at, walk_f, walk_from, walk_of, places_in}
use Rattle.book.specs.Fillers.{fillers_from, after_end_record}
use Rattle.book.specs.Books.{accepted, counted, book_of, entry_at, places_of, record_from, record_answer, record_text_in, record_note_in}
use Rattle.book.specs.declared.types.Book.{Book}

-- FF FF 01 00 01 / E0 01 1E 00 01 05 00 / 01 0F 00 01 5D 03 0F 02 58 94 02 05 03 00 00 44 65 70 / 32 00 00
abbrev pub case : List ℕ
case =
    0xFF ∷ 0xFF ∷ 0x01 ∷ 0x00 ∷ 0x01 ∷ 0xE0 ∷ 0x01 ∷ 0x1E ∷ 0x00 ∷ 0x01 ∷ 0x05 ∷ 0x00 ∷ 0x01 ∷ 0x0F ∷ 0x00 ∷ 0x01 ∷ 0x5D ∷ 0x03 ∷ 0x0F ∷ 0x02 ∷ 0x58 ∷ 0x94 ∷ 0x02 ∷ 0x05 ∷ 0x03 ∷ 0x00 ∷ 0x00 ∷ 0x44 ∷ 0x65 ∷ 0x70 ∷ 0x32 ∷ 0x00 ∷ 0x00 ∷ []

-- display from 8:00 in steps of 30 minutes, alarm on, lead time 5, no carry forward; one record
abbrev pub case_book : Book
case_book = record { settings = record { start = record { 0 = 480 }; granularity = 30; alarm = true; lead = 5; carry_forward = false }; records = 1 }

pub case-accepted : book_of case ≡ Ok case_book
unfolding book_of counted accepted after_end_record fillers_from book_identified book_mark settings_ok settings_in_range settings_of flags_ok walk_of walk_from walk_f step_at judge_head body_step judge_body lengths_ok lengths_fit fields_ok texts_ok dated_of fixed_of dated_ok times_ok real month_length leap no_zero note_ok lines_of short_lines if_lt if_eq if_b
case-accepted = refl

-- filled up to a block of 128; "0 to 127 bytes", and one more; "the first that isn't 1Ah"
pub case-filled :
    (book_of (case ++ replicate 95 0x1A) ≡ Ok case_book) × (book_of (case ++ replicate 127 0x1A) ≡ Ok case_book)
    × (book_of (case ++ replicate 128 0x1A) ≡ Err (refusal_at after_end 33))
    × (book_of (case ++ (0x1A ∷ (0x00 ∷ []))) ≡ Err (refusal_at after_end 34))
unfolding book_of counted accepted after_end_record fillers_from book_identified book_mark settings_ok settings_in_range settings_of flags_ok walk_of walk_from walk_f step_at judge_head body_step judge_body lengths_ok lengths_fit fields_ok texts_ok dated_of fixed_of dated_ok times_ok real month_length leap no_zero note_ok lines_of short_lines if_lt if_eq if_b
case-filled = (refl, refl, refl, refl)

-- 15 March 1993, 10:00 to 11:00, alarm on, lead time 5
pub case_record_lem :
    record_answer case 0 ≡
    Ok
    (record {
      place = 12;
      «record» = Record.Dated (record { alarm = true; date = record { year = 1993; month = 3; day = 15 }; start = record { 0 = 600 }; end = record { 0 = 660 }; lead = 5 });
      text = record { place = 27; length = 3 };
      note = record { place = 30; length = 0 };
    })
unfolding record_answer record_from places_of places_in entry_at record_of book_of counted accepted after_end_record fillers_from book_identified book_mark settings_ok settings_in_range settings_of flags_ok walk_of walk_from walk_f step_at judge_head body_step judge_body lengths_ok lengths_fit fields_ok texts_ok dated_of fixed_of dated_ok times_ok real month_length leap no_zero note_ok lines_of short_lines if_lt if_eq if_b
case_record_lem = refl

-- "Dep", and no note
pub case_text : record_text_in case (record_answer case 0) ≡ 0x44 ∷ 0x65 ∷ 0x70 ∷ []
unfolding record_text_in
case_text = rw case_record_lem

pub case_note : record_note_in case (record_answer case 0) ≡ []
unfolding record_note_in
case_note = rw case_record_lem
