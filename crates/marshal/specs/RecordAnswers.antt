-- A record across C: number 0 and its values, or the refusal with every value 0. What a kind of record does not have is 0.
-- Assumes nothing.
use Rattle.std.specs.Prelude.{Result, Ok, Err, Option, Some, None, ℕ, Bool, true, false}
use Rattle.days.specs.declared.types.Date.{Date}
use Rattle.records.specs.declared.types.Dated.{Dated}
use Rattle.records.specs.declared.types.Repeat.{Repeat}
use Rattle.records.specs.declared.types.ToDo.{ToDo}
use Rattle.records.specs.declared.types.Record.{Record}
use Rattle.book.specs.declared.types.Entry.{Entry}
use Rattle.marshal.specs.declared.record_answers.Numbers.{Numbers}
use Rattle.marshal.specs.declared.record_answers.RecordOut.{RecordOut}
use Rattle.prelude.specs.declared.refusals.Refusal.{Refusal}

abbrev pub no_date : Date
no_date = record { year = 0; month = 0; day = 0 }

unfoldable pub record_with : Entry → ℕ → Numbers → Date → Date → Date → Bool → Bool → RecordOut
record_with e kind n first last on flag checked =
    record {
      number = 0;
      place = 0;
      at = e.place;
      text_at = e.text.place;
      text_length = e.text.length;
      note_at = e.note.place;
      note_length = e.note.length;
      kind = kind;
      weekday = n.weekday;
      week = n.week;
      month = n.month;
      day = n.day;
      priority = n.priority;
      start = n.start;
      end = n.end;
      lead = n.lead;
      first_year = first.year;
      first_month = first.month;
      first_day = first.day;
      last_year = last.year;
      last_month = last.month;
      last_day = last.day;
      check_off_year = on.year;
      check_off_month = on.month;
      check_off_day = on.day;
      flag = flag;
      checked_off = checked;
    }

abbrev pub numbers : ℕ → ℕ → ℕ → ℕ → ℕ → ℕ → ℕ → ℕ → Numbers
numbers weekday week month day priority start end lead =
    record {
      weekday = weekday;
      week = week;
      month = month;
      day = day;
      priority = priority;
      start = start;
      end = end;
      lead = lead;
    }

unfoldable pub dated_out : Entry → Dated → RecordOut
dated_out e d =
    record_with e 1 (numbers 0 0 0 0 0 d.start.0 d.end.0 d.lead) d.date no_date no_date d.alarm false

unfoldable pub repeat_out : Entry → ℕ → Repeat → ℕ → ℕ → ℕ → ℕ → RecordOut
repeat_out e kind r weekday week month day =
    record_with e kind (numbers weekday week month day 0 r.start.0 r.end.0 r.lead) r.first r.last no_date r.alarm false

unfoldable pub to_do_out : Entry → ToDo → Date → Bool → RecordOut
to_do_out e t on checked =
    record_with e 6 (numbers 0 0 0 0 t.priority 0 0 0) t.start no_date on t.carry_forward checked

unfoldable pub checked_out : Entry → ToDo → Option Date → RecordOut
checked_out e t None = to_do_out e t no_date false
checked_out e t (Some d) = to_do_out e t d true

unfoldable pub kind_out : Entry → Record → RecordOut
kind_out e (Record.Dated d) = dated_out e d
kind_out e (Record.Weekly w) = repeat_out e 2 w.repeat w.weekday 0 0 0
kind_out e (Record.MonthlyByDate m) = repeat_out e 3 m.repeat 0 0 0 m.day
kind_out e (Record.MonthlyByPosition m) = repeat_out e 4 m.repeat m.weekday m.week 0 0
kind_out e (Record.Yearly y) = repeat_out e 5 y.repeat 0 0 y.month y.day
kind_out e (Record.ToDo t) = checked_out e t t.check_off

unfoldable pub refused_out : ℕ → ℕ → RecordOut
refused_out number place =
    record {
      number = number;
      place = place;
      at = 0;
      text_at = 0;
      text_length = 0;
      note_at = 0;
      note_length = 0;
      kind = 0;
      weekday = 0;
      week = 0;
      month = 0;
      day = 0;
      priority = 0;
      start = 0;
      end = 0;
      lead = 0;
      first_year = 0;
      first_month = 0;
      first_day = 0;
      last_year = 0;
      last_month = 0;
      last_day = 0;
      check_off_year = 0;
      check_off_month = 0;
      check_off_day = 0;
      flag = false;
      checked_off = false;
    }

unfoldable pub record_out : Result Entry Refusal → RecordOut
record_out (Ok e) = kind_out e e.«record»
record_out (Err e) = refused_out e.number e.place
