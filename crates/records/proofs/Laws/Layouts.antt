-- The layout of each kind, by example: bytes set by hand from document 000's offsets, what is read in them, and that it is written so.
-- Assumes nothing.
use Rattle.std.specs.Prelude.{Ok, Some, None, ℕ, ◌≡◌, refl, true, false, List, [], ◌∷◌, ◌++◌}
use Rattle.prelude.specs.Choice.{if_lt, if_eq, if_b}
use Rattle.prelude.specs.Bytes.{bit, le16, be16}
use Rattle.days.specs.Dates.{leap, month_length, real, before}
use Rattle.days.specs.declared.types.Date.{Date}
use Rattle.days.specs.declared.types.Minute.{Minute}
use Rattle.texts.specs.Notes.{no_zero, lines_of, short_lines, note_ok}
use Rattle.records.specs.Fields.{dated_of, repeat_of, weekly_of, monthly_by_date_of, monthly_by_position_of, yearly_of, to_do_of, check_off_of, record_of, fixed_of, body_text, body_note}
use Rattle.records.specs.Ranges.{times_ok, between, dated_ok, repeat_ok, weekly_ok, monthly_by_date_ok, monthly_by_position_ok, yearly_ok, check_off_ok, to_do_ok, three_zeros, check_off_clean}
use Rattle.records.specs.Bodies.{lengths_fit, lengths_ok, fields_ok, texts_ok, judge_body}
use Rattle.records.specs.Encoding.{date_bytes, check_off_bit, check_off_bytes, tail_bytes, from_start, fixed_bytes, type_of, body_bytes, encode}
use Rattle.records.specs.declared.types.Record.{Record}

abbrev date : ℕ → ℕ → ℕ → Date
date y m d = record { year = y; month = m; day = d }

abbrev minute : ℕ → Minute
minute n = record { 0 = n }

-- Bytes p of type t with that padding are accepted and hold that record, text and note, and these are written as p.
abbrev pub Layout : ℕ → List ℕ → List ℕ → Record → List ℕ → List ℕ → Type 0
Layout t p padding r text note =
    (judge_body t (p ++ padding) ≡ Ok tt) × (record_of t (p ++ padding) ≡ r) × (body_text t (p ++ padding) ≡ text)
    × (body_note t (p ++ padding) ≡ note) × (type_of r ≡ t) × (body_bytes r text note ≡ p)

-- Type 1, "Daily Data Record", from its offset 3 on: 31 December 1980, 5:00 to 23:59, "Hi", a note of two lines.
abbrev pub dated : List ℕ
dated =
    0x00 ∷  -- ApptState
    0x50 ∷ 0x0C ∷ 0x1F ∷  -- Year, Month, Day
    0x01 ∷ 0x2C ∷  -- StartTime, swpint
    0x9F ∷ 0x05 ∷  -- EndTime
    0x1E ∷  -- LeadTime
    0x02 ∷ 0x03 ∷ 0x00 ∷  -- ApptLength, NoteLength
    0x48 ∷ 0x69 ∷ 0x61 ∷ 0x00 ∷ 0x62 ∷ []

abbrev pub dated_record : Record
dated_record = Record.Dated (record { alarm = false; date = date 1980 12 31; start = minute 300; end = minute 1439; lead = 30 })

pub dated_layout : Layout 1 dated (0x2A ∷ []) dated_record (0x48 ∷ 0x69 ∷ []) (0x61 ∷ 0x00 ∷ 0x62 ∷ [])
unfolding judge_body lengths_ok lengths_fit fields_ok texts_ok dated_ok times_ok real month_length leap no_zero note_ok lines_of short_lines record_of dated_of fixed_of type_of body_bytes fixed_bytes date_bytes bit le16 be16 if_lt if_eq if_b
dated_layout = (refl, refl, refl, refl, refl, refl)

-- Type 2, "Weekly Data Record": Tuesdays from 16 March to 28 December 1993, 10:00 to 11:00, "Gym!".
abbrev pub weekly : List ℕ
weekly =
    0x01 ∷ 0x03 ∷  -- ApptState, DayOfWeek
    0x02 ∷ 0x58 ∷ 0x5D ∷ 0x03 ∷ 0x10 ∷  -- StartTime, StartYear, StartMonth, StartDay
    0x94 ∷ 0x02 ∷ 0x5D ∷ 0x0C ∷ 0x1C ∷  -- EndTime, EndYear, EndMonth, EndDay
    0x0F ∷ 0x04 ∷ 0x00 ∷ 0x00 ∷  -- LeadTime, ApptLength, NoteLength
    0x47 ∷ 0x79 ∷ 0x6D ∷ 0x21 ∷ []

abbrev pub weekly_record : Record
weekly_record =
    Record.Weekly (record {
      weekday = 3;
      repeat = record { alarm = true; start = minute 600; first = date 1993 3 16; end = minute 660; last = date 1993 12 28; lead = 15 };
    })

pub weekly_layout : Layout 2 weekly [] weekly_record (0x47 ∷ 0x79 ∷ 0x6D ∷ 0x21 ∷ []) []
unfolding judge_body lengths_ok lengths_fit fields_ok texts_ok weekly_ok repeat_ok between times_ok before real month_length leap no_zero note_ok lines_of short_lines record_of weekly_of repeat_of fixed_of type_of body_bytes fixed_bytes from_start tail_bytes date_bytes bit le16 be16 if_lt if_eq if_b
weekly_layout = (refl, refl, refl, refl, refl, refl)

-- Type 3, "Monthly by Date Data Record": each 31st from 30 January 1992 to 31 December 2099 at 23:59, no text, note "rent".
abbrev pub monthly_by_date : List ℕ
monthly_by_date =
    0x00 ∷ 0x1F ∷  -- ApptState, DayOfMonth
    0x05 ∷ 0x9F ∷ 0x5C ∷ 0x01 ∷ 0x1E ∷  -- StartTime, StartYear, StartMonth, StartDay
    0x9F ∷ 0x05 ∷ 0xC7 ∷ 0x0C ∷ 0x1F ∷  -- EndTime, EndYear, EndMonth, EndDay
    0x02 ∷ 0x00 ∷ 0x05 ∷ 0x00 ∷  -- LeadTime, ApptLength, NoteLength
    0x72 ∷ 0x65 ∷ 0x6E ∷ 0x74 ∷ 0x00 ∷ []

abbrev pub monthly_by_date_record : Record
monthly_by_date_record =
    Record.MonthlyByDate (record {
      day = 31;
      repeat = record { alarm = false; start = minute 1439; first = date 1992 1 30; end = minute 1439; last = date 2099 12 31; lead = 2 };
    })

pub monthly_by_date_layout : Layout 3 monthly_by_date (0x00 ∷ []) monthly_by_date_record [] (0x72 ∷ 0x65 ∷ 0x6E ∷ 0x74 ∷ 0x00 ∷ [])
unfolding judge_body lengths_ok lengths_fit fields_ok texts_ok monthly_by_date_ok repeat_ok between times_ok before real month_length leap no_zero note_ok lines_of short_lines record_of monthly_by_date_of repeat_of fixed_of type_of body_bytes fixed_bytes from_start tail_bytes date_bytes bit le16 be16 if_lt if_eq if_b
monthly_by_date_layout = (refl, refl, refl, refl, refl, refl)

-- Type 4, "Monthly by Position Data Record": each fifth Monday from 1 March 1993 to 31 May 1994, 8:00 to 9:00, "Tea", note "x".
abbrev pub monthly_by_position : List ℕ
monthly_by_position =
    0x01 ∷ 0x05 ∷ 0x02 ∷  -- ApptState, WeekOfMonth, DayOfWeek
    0x01 ∷ 0xE0 ∷ 0x5D ∷ 0x03 ∷ 0x01 ∷  -- StartTime, StartYear, StartMonth, StartDay
    0x1C ∷ 0x02 ∷ 0x5E ∷ 0x05 ∷ 0x1F ∷  -- EndTime, EndYear, EndMonth, EndDay
    0x0A ∷ 0x03 ∷ 0x01 ∷ 0x00 ∷  -- LeadTime, ApptLength, NoteLength
    0x54 ∷ 0x65 ∷ 0x61 ∷ 0x78 ∷ []

abbrev pub monthly_by_position_record : Record
monthly_by_position_record =
    Record.MonthlyByPosition (record {
      week = 5;
      weekday = 2;
      repeat = record { alarm = true; start = minute 480; first = date 1993 3 1; end = minute 540; last = date 1994 5 31; lead = 10 };
    })

pub monthly_by_position_layout : Layout 4 monthly_by_position [] monthly_by_position_record (0x54 ∷ 0x65 ∷ 0x61 ∷ []) (0x78 ∷ [])
unfolding judge_body lengths_ok lengths_fit fields_ok texts_ok monthly_by_position_ok repeat_ok between times_ok before real month_length leap no_zero note_ok lines_of short_lines record_of monthly_by_position_of repeat_of fixed_of type_of body_bytes fixed_bytes from_start tail_bytes date_bytes bit le16 be16 if_lt if_eq if_b
monthly_by_position_layout = (refl, refl, refl, refl, refl, refl)

-- Type 5, "Yearly Data Record": 29 February from 31 January 1992 to 29 February 2000, 0:07 to 0:08, "Annie".
abbrev pub yearly : List ℕ
yearly =
    0x00 ∷ 0x02 ∷ 0x1D ∷  -- ApptState, MonthOfYear, DayOfMonth
    0x00 ∷ 0x07 ∷ 0x5C ∷ 0x01 ∷ 0x1F ∷  -- StartTime, StartYear, StartMonth, StartDay
    0x08 ∷ 0x00 ∷ 0x64 ∷ 0x02 ∷ 0x1D ∷  -- EndTime, EndYear, EndMonth, EndDay
    0x01 ∷ 0x05 ∷ 0x00 ∷ 0x00 ∷  -- LeadTime, ApptLength, NoteLength
    0x41 ∷ 0x6E ∷ 0x6E ∷ 0x69 ∷ 0x65 ∷ []

abbrev pub yearly_record : Record
yearly_record =
    Record.Yearly (record {
      month = 2;
      day = 29;
      repeat = record { alarm = false; start = minute 7; first = date 1992 1 31; end = minute 8; last = date 2000 2 29; lead = 1 };
    })

pub yearly_layout : Layout 5 yearly (0xFF ∷ []) yearly_record (0x41 ∷ 0x6E ∷ 0x6E ∷ 0x69 ∷ 0x65 ∷ []) []
unfolding judge_body lengths_ok lengths_fit fields_ok texts_ok yearly_ok repeat_ok between times_ok before real month_length leap no_zero note_ok lines_of short_lines record_of yearly_of repeat_of fixed_of type_of body_bytes fixed_bytes from_start tail_bytes date_bytes bit le16 be16 if_lt if_eq if_b
yearly_layout = (refl, refl, refl, refl, refl, refl)

-- Type 6, "To Do Data Record": carried forward, priority 9, from 15 March 1993, checked off on 2 April, "Call", note "m".
abbrev pub to_do : List ℕ
to_do =
    0x03 ∷ 0x09 ∷  -- ToDoState, Priority
    0x5D ∷ 0x03 ∷ 0x0F ∷  -- StartYear, StartMonth, StartDay
    0x5D ∷ 0x04 ∷ 0x02 ∷  -- CheckOffYear, CheckOffMonth, CheckOffDay
    0x04 ∷ 0x01 ∷ 0x00 ∷  -- ToDoLength, NoteLength
    0x43 ∷ 0x61 ∷ 0x6C ∷ 0x6C ∷ 0x6D ∷ []

abbrev pub to_do_record : Record
to_do_record =
    Record.ToDo (record { carry_forward = true; priority = 9; start = date 1993 3 15; check_off = Some (date 1993 4 2) })

pub to_do_layout : Layout 6 to_do (0x07 ∷ []) to_do_record (0x43 ∷ 0x61 ∷ 0x6C ∷ 0x6C ∷ []) (0x6D ∷ [])
unfolding judge_body lengths_ok lengths_fit fields_ok texts_ok to_do_ok check_off_ok check_off_clean three_zeros between real month_length leap no_zero note_ok lines_of short_lines record_of to_do_of check_off_of fixed_of type_of body_bytes fixed_bytes check_off_bit check_off_bytes date_bytes bit le16 be16 if_lt if_eq if_b
to_do_layout = (refl, refl, refl, refl, refl, refl)

-- the same, neither carried forward nor checked off, without text and note
pub to_do_left_layout :
    Layout 6 (0x00 ∷ 0x01 ∷ 0x5D ∷ 0x03 ∷ 0x0F ∷ 0x00 ∷ 0x00 ∷ 0x00 ∷ 0x00 ∷ 0x00 ∷ 0x00 ∷ []) []
    (Record.ToDo (record { carry_forward = false; priority = 1; start = date 1993 3 15; check_off = None })) [] []
unfolding judge_body lengths_ok lengths_fit fields_ok texts_ok to_do_ok check_off_ok check_off_clean three_zeros between real month_length leap no_zero note_ok lines_of short_lines record_of to_do_of check_off_of fixed_of type_of body_bytes fixed_bytes check_off_bit check_off_bytes date_bytes bit le16 be16 if_lt if_eq if_b
to_do_left_layout = (refl, refl, refl, refl, refl, refl)

-- Document 01, "One whole case": 01 0F 00 / s 5D 03 0F 02 58 94 02 05 03 00 00 44 65 70 with s = 01.
abbrev pub case_body : ℕ → List ℕ
case_body s = s ∷ 0x5D ∷ 0x03 ∷ 0x0F ∷ 0x02 ∷ 0x58 ∷ 0x94 ∷ 0x02 ∷ 0x05 ∷ 0x03 ∷ 0x00 ∷ 0x00 ∷ 0x44 ∷ 0x65 ∷ 0x70 ∷ []

-- 15 March 1993, 10:00 to 11:00
abbrev pub case_record : Record
case_record = Record.Dated (record { alarm = true; date = date 1993 3 15; start = minute 600; end = minute 660; lead = 5 })

pub case_layout : Layout 1 (case_body 0x01) [] case_record (0x44 ∷ 0x65 ∷ 0x70 ∷ []) []
unfolding judge_body lengths_ok lengths_fit fields_ok texts_ok dated_ok times_ok real month_length leap no_zero note_ok lines_of short_lines record_of dated_of fixed_of type_of body_bytes fixed_bytes date_bytes bit le16 be16 if_lt if_eq if_b
case_layout = (refl, refl, refl, refl, refl, refl)

pub case_encoded : encode case_record (0x44 ∷ 0x65 ∷ 0x70 ∷ []) [] ≡ 0x01 ∷ 0x0F ∷ 0x00 ∷ case_body 0x01
unfolding encode body_bytes fixed_bytes type_of date_bytes bit le16 be16 if_b
case_encoded = refl

-- "other bits are ignored when read"
pub case_other_bits : (judge_body 1 (case_body 0xFF) ≡ Ok tt) × (record_of 1 (case_body 0xFF) ≡ case_record)
unfolding judge_body lengths_ok lengths_fit fields_ok texts_ok dated_ok times_ok real month_length leap no_zero note_ok lines_of short_lines record_of dated_of fixed_of if_lt if_eq if_b
case_other_bits = (refl, refl)
