-- The export of a book's days as a Calendar file, document 01 "The Calendar file" and the refusals 11, 13 and 12.
-- What a day shows is left open: `shows d x` says whether the record x shows on day d.
-- Assumes nothing.
use Rattle.std.specs.Prelude.{Result, Ok, Err, ℕ, ◌+◌, ◌%◌, Bool, true, false, List, map, length}
use Rattle.prelude.specs.Choice.{if_lt, if_eq, if_b}
use Rattle.prelude.specs.Bytes.{bit, stretch_bytes}
use Rattle.prelude.specs.Refusals.{out_of_range, no_room, too_many_blocks, refusal}
use Rattle.prelude.specs.Splice.{splice}
use Rattle.days.specs.Days.{last_day}
use Rattle.days.specs.Facts.{facts_of}
use Rattle.book.specs.Books.{book_of}
use Rattle.book.specs.Settings.{settings_of}
use Rattle.book.specs.declared.types.Settings.{Settings}
use Rattle.falls.specs.declared.types.ShortMonth.{ShortMonth}
use Rattle.pages.specs.Pages.{Numbered, record_times, start_of, page_of, falls_on}
use Rattle.calendar.specs.File.{Appointment, Day, file_of}
use Rattle.calendar.specs.declared.types.CalendarSettings.{CalendarSettings}
use Rattle.calendar_writer.specs.DayLists.{days_with, past_last_block, most_days}
use Rattle.prelude.specs.declared.refusals.Refusal.{Refusal}
use Rattle.book.specs.declared.types.Book.{Book}

-- "The export takes a first day, a Calendar day even when the count is 0, and a count of days, 0 to 366, with first + count at most 43,830."
unfoldable pub span_ok : ℕ → ℕ → Bool
span_ok first count = if_lt last_day first false (if_lt most_days count false (if_lt (last_day + 1) (first + count) false true))

-- "granularity 15, 30 or 60 as its code and minutes and anything else as 30"; "interval code (0 = 15, 1 = 30, 2 = 60 minutes)"
unfoldable pub code_of : ℕ → ℕ
code_of granularity = if_eq granularity 15 0 (if_eq granularity 60 2 1)

unfoldable pub interval_of : ℕ → ℕ
interval_of granularity = if_eq granularity 15 15 (if_eq granularity 60 60 30)

-- "Settings: early ring from lead time, sound from alarm, granularity ..; 24-hour 1; start minute."
unfoldable pub settings_for : Settings → CalendarSettings
settings_for s =
    record {
      ring = s.lead;
      sound = bit s.alarm;
      code = code_of s.granularity;
      interval = interval_of s.granularity;
      hours24 = 1;
      start = s.start;
    }

-- "Flag 2 is set just when the minute isn't a multiple of the interval"
unfoldable pub special_time : ℕ → ℕ → ℕ
special_time interval minute = if_eq (minute % interval) 0 0 2

-- a record's text in the file
abbrev pub record_text : List ℕ → Numbered → List ℕ
record_text f x = stretch_bytes f x.entry.text

-- a record as an appointment: "flags (1 alarm, 2 special time), minute, text"; "Dropped: end minutes, own lead times, notes, to-dos."
unfoldable pub appointment_of : List ℕ → ℕ → Numbered → Appointment
appointment_of f interval x =
    record { minute = start_of x; flags = bit (record_times x).alarm + special_time interval (start_of x); text = record_text f x }

-- a day's appointments, in page order
unfoldable pub appointments_for : (ℕ → Numbered → Bool) → List ℕ → ℕ → ℕ → List Appointment
appointments_for shows f interval d = map (appointment_of f interval) (page_of (shows d) f)

-- the days of a span
unfoldable pub export_days : (ℕ → Numbered → Bool) → List ℕ → ℕ → ℕ → List Day
export_days shows f first count =
    days_with (appointments_for shows f (interval_of (settings_of f).granularity)) count first

-- the file
unfoldable pub export_file : (ℕ → Numbered → Bool) → List ℕ → ℕ → ℕ → List ℕ
export_file shows f first count = file_of (settings_for (settings_of f)) (export_days shows f first count)

-- 13, then "12: lent buffer shorter than the file"
unfoldable pub sized : ℕ → Bool → ℕ → Result ℕ Refusal
sized room past size =
    if_b past (Err (refusal too_many_blocks))
    (if_lt room size (Err (refusal no_room)) (Ok size))

-- a span of an accepted book
unfoldable pub span_answer : (ℕ → Numbered → Bool) → List ℕ → ℕ → ℕ → ℕ → Result ℕ Refusal
span_answer shows f first count room =
    sized room (past_last_block (export_days shows f first count)) (length (export_file shows f first count))

-- "Calls on a book give these first, then 11, 10, 13, 12."
unfoldable pub export_from : (ℕ → Numbered → Bool) → List ℕ → ℕ → ℕ → ℕ → Result Book Refusal → Result ℕ Refusal
export_from shows f first count room (Ok b) =
    if_b (span_ok first count) (span_answer shows f first count room) (Err (refusal out_of_range))
export_from shows f first count room (Err e) = Err e

unfoldable pub export_answer : (ℕ → Numbered → Bool) → List ℕ → ℕ → ℕ → ℕ → Result ℕ Refusal
export_answer shows f first count room = export_from shows f first count room (book_of f)

-- "No lent byte changes. After success, bytes past the written length are as before."
unfoldable pub leaves_file : List ℕ → List ℕ → Result ℕ Refusal → List ℕ
leaves_file file out (Ok n) = splice out 0 file
leaves_file file out (Err e) = out

-- the lent buffer, which was out: after a span of an accepted book, and after any call
unfoldable pub span_leaves : (ℕ → Numbered → Bool) → List ℕ → ℕ → ℕ → List ℕ → List ℕ
span_leaves shows f first count out =
    leaves_file (export_file shows f first count) out (span_answer shows f first count (length out))

unfoldable pub export_leaves : (ℕ → Numbered → Bool) → List ℕ → ℕ → ℕ → List ℕ → List ℕ
export_leaves shows f first count out =
    leaves_file (export_file shows f first count) out (export_answer shows f first count (length out))

-- what shows under a short-month choice: the records that fall on the day
abbrev pub shows_under : ShortMonth → ℕ → Numbered → Bool
shows_under c d = falls_on c (facts_of d)
