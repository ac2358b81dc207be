-- Document 01, "One whole case": the export of the 33-byte book, 192 bytes with day 4,822 and 64 bytes without.
-- Assumes nothing.
use Rattle.std.specs.Prelude.{Ok, Err, ℕ, ◌≡◌, refl, Bool, true, false, [], ◌∷◌, ◌++◌}
use Rattle.prelude.specs.Choice.{if_lt, if_eq, if_b}
use Rattle.prelude.specs.Bytes.{bit, le16}
use Rattle.prelude.specs.Refusals.{no_room, refusal}
use Rattle.prelude.specs.Splice.{splice}
use Rattle.sorting.specs.Keep.{keep}
use Rattle.sorting.specs.Order.{insert, sort}
use Rattle.sorting.specs.Totals.{total}
use Rattle.days.specs.Dates.{leap, month_length, real}
use Rattle.days.specs.Days.{date_of, next_date, weekday_of, next_weekday}
use Rattle.days.specs.Facts.{facts_of}
use Rattle.texts.specs.Notes.{no_zero, lines_of, short_lines, note_ok}
use Rattle.records.specs.Fields.{dated_of, record_of, fixed_of}
use Rattle.records.specs.Ranges.{times_ok, dated_ok}
use Rattle.records.specs.Bodies.{lengths_fit, lengths_ok, fields_ok, texts_ok, judge_body}
use Rattle.book.specs.Settings.{book_mark, book_identified, settings_in_range, settings_of, flags_ok, settings_ok}
use Rattle.book.specs.Walk.{judge_head, body_step, step_at, walk_f, walk_from, walk_of, places_in}
use Rattle.book.specs.Fillers.{fillers_from, after_end_record}
use Rattle.book.specs.Books.{accepted, counted, book_of, entry_at, places_of, entries_of}
use Rattle.book.proofs.Laws.Examples.{case}
use Rattle.falls.specs.Falls.{dated_falls, falls}
use Rattle.falls.specs.Times.{times_of}
use Rattle.falls.specs.declared.types.ShortMonth.{ShortMonth}
use Rattle.pages.specs.Pages.{Numbered, numbered_from, numbered, page_of}
use Rattle.calendar.specs.File.{zeros, filled, appointment_bytes, appointments_bytes, block_bytes, blocks, alarms, descriptor_bytes, table, head_bytes, file_of}
use Rattle.calendar_writer.specs.DayLists.{add_day, days_with, past_last_block_from, past_last_block}
use Rattle.export.specs.Export.{code_of, interval_of, settings_for, special_time, appointment_of, appointments_for, export_days, export_file, sized, span_answer, span_ok, export_from, export_answer, leaves_file, export_leaves, shows_under}
use Rattle.export.specs.Demand.{day_list, busy_days, file_size}
use Rattle.calendar.proofs.Laws.Examples as calendar

abbrev shows : ℕ → Numbered → Bool
shows = shows_under ShortMonth.Skip

-- "Export of a span with that day, 192 bytes"
pub case_file : export_file shows case 4820 7 ≡ calendar.case
unfolding export_file export_days days_with add_day appointments_for appointment_of special_time settings_for interval_of code_of bit settings_of page_of sort insert keep numbered numbered_from entries_of entry_at places_of places_in walk_of walk_from walk_f step_at judge_head body_step judge_body lengths_ok lengths_fit fields_ok texts_ok dated_of record_of fixed_of dated_ok times_ok real month_length leap no_zero note_ok lines_of short_lines times_of falls dated_falls facts_of date_of next_date weekday_of next_weekday file_of head_bytes table descriptor_bytes alarms filled blocks block_bytes appointments_bytes appointment_bytes le16 if_lt if_eq if_b
case_file = refl

-- "A span without it: 64 bytes, count 0."
pub empty_files : (export_file shows case 4823 7 ≡ calendar.empty_case) × (export_file shows case 4822 0 ≡ calendar.empty_case)
unfolding export_file export_days days_with add_day appointments_for appointment_of special_time settings_for interval_of code_of bit settings_of page_of sort insert keep numbered numbered_from entries_of entry_at places_of places_in walk_of walk_from walk_f step_at judge_head body_step judge_body lengths_ok lengths_fit fields_ok texts_ok dated_of record_of fixed_of dated_ok times_ok real month_length leap no_zero note_ok lines_of short_lines times_of falls dated_falls facts_of date_of next_date weekday_of next_weekday file_of head_bytes table descriptor_bytes alarms filled blocks block_bytes appointments_bytes appointment_bytes le16 if_lt if_eq if_b
empty_files = (refl, refl)

-- both lengths as demand 3 states them, from the pages
pub case_sizes : (file_size (day_list shows case) 4820 7 ≡ 192) × (file_size (day_list shows case) 4823 7 ≡ 64) × (file_size (day_list shows case) 4822 0 ≡ 64)
unfolding total busy_days page_of sort insert keep numbered numbered_from entries_of entry_at places_of places_in walk_of walk_from walk_f step_at judge_head body_step judge_body lengths_ok lengths_fit fields_ok texts_ok dated_of record_of fixed_of dated_ok times_ok real month_length leap no_zero note_ok lines_of short_lines times_of falls dated_falls facts_of date_of next_date weekday_of next_weekday if_lt if_eq if_b
case_sizes = (refl, refl, refl)

-- a room of 192 bytes is just enough; the program's
pub case_answers : (export_answer shows case 4820 7 192 ≡ Ok 192) × (export_answer shows case 4820 7 191 ≡ Err (refusal no_room)) × (export_answer shows case 4820 7 65536 ≡ Ok 192)
unfolding export_answer export_from span_answer sized past_last_block past_last_block_from span_ok book_of counted accepted fillers_from after_end_record book_identified book_mark settings_ok settings_in_range flags_ok export_file export_days days_with add_day appointments_for appointment_of special_time settings_for interval_of code_of bit settings_of page_of sort insert keep numbered numbered_from entries_of entry_at places_of places_in walk_of walk_from walk_f step_at judge_head body_step judge_body lengths_ok lengths_fit fields_ok texts_ok dated_of record_of fixed_of dated_ok times_ok real month_length leap no_zero note_ok lines_of short_lines times_of falls dated_falls facts_of date_of next_date weekday_of next_weekday file_of head_bytes table descriptor_bytes alarms filled blocks block_bytes appointments_bytes appointment_bytes le16 if_lt if_eq if_b
case_answers = (refl, refl, refl)

-- "bytes past the written length are as before"
pub case_left : export_leaves shows case 4820 7 (zeros 192 ++ (1 ∷ (2 ∷ []))) ≡ calendar.case ++ (1 ∷ (2 ∷ []))
unfolding export_leaves leaves_file splice export_answer export_from span_answer sized past_last_block past_last_block_from span_ok book_of counted accepted fillers_from after_end_record book_identified book_mark settings_ok settings_in_range flags_ok export_file export_days days_with add_day appointments_for appointment_of special_time settings_for interval_of code_of bit settings_of page_of sort insert keep numbered numbered_from entries_of entry_at places_of places_in walk_of walk_from walk_f step_at judge_head body_step judge_body lengths_ok lengths_fit fields_ok texts_ok dated_of record_of fixed_of dated_ok times_ok real month_length leap no_zero note_ok lines_of short_lines times_of falls dated_falls facts_of date_of next_date weekday_of next_weekday file_of head_bytes table descriptor_bytes alarms filled blocks block_bytes appointments_bytes appointment_bytes le16 if_lt if_eq if_b
case_left = refl

-- 0, 366 and 367 days; the first and the last day
pub spans : (span_ok 0 0 ≡ true) × (span_ok 0 366 ≡ true) × (span_ok 0 367 ≡ false) × (span_ok 43829 1 ≡ true) × (span_ok 43829 2 ≡ false) × (span_ok 43830 0 ≡ false)
unfolding span_ok if_lt
spans = (refl, refl, refl, refl, refl, refl)

-- "granularity 15, 30 or 60 as its code and minutes and anything else as 30"
pub intervals : (interval_of 15 ≡ 15) × (interval_of 30 ≡ 30) × (interval_of 60 ≡ 60) × (interval_of 20 ≡ 30)
unfolding interval_of if_eq
intervals = (refl, refl, refl, refl)

pub codes : (code_of 15 ≡ 0) × (code_of 30 ≡ 1) × (code_of 60 ≡ 2) × (code_of 20 ≡ 1)
unfolding code_of if_eq
codes = (refl, refl, refl, refl)
