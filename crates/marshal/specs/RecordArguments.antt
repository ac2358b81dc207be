-- A record as a caller hands it over across C: as the reading calls give it.
-- Assumes nothing.
use Rattle.std.specs.Prelude.{Option, Some, None, ℕ}
use Rattle.prelude.specs.Choice.{if_eq, if_b}
use Rattle.records.specs.declared.types.Dated.{Dated}
use Rattle.records.specs.declared.types.Repeat.{Repeat}
use Rattle.records.specs.declared.types.ToDo.{ToDo}
use Rattle.records.specs.declared.types.Record.{Record}
use Rattle.marshal.specs.declared.record_answers.RecordOut.{RecordOut}
use Rattle.days.specs.declared.types.Date.{Date}

abbrev pub first_in : RecordOut → Date
first_in r = record { year = r.first_year; month = r.first_month; day = r.first_day }

abbrev pub last_in : RecordOut → Date
last_in r = record { year = r.last_year; month = r.last_month; day = r.last_day }

abbrev pub repeat_in : RecordOut → Repeat
repeat_in r =
    record {
      alarm = r.flag;
      start = record { 0 = r.start };
      first = first_in r;
      end = record { 0 = r.end };
      last = last_in r;
      lead = r.lead;
    }

abbrev pub dated_in : RecordOut → Dated
dated_in r =
    record {
      alarm = r.flag;
      date = first_in r;
      start = record { 0 = r.start };
      end = record { 0 = r.end };
      lead = r.lead;
    }

unfoldable pub check_off_in : RecordOut → Option Date
check_off_in r =
    if_b r.checked_off
    (Some (record { year = r.check_off_year; month = r.check_off_month; day = r.check_off_day }))
    None

abbrev pub to_do_in : RecordOut → ℕ → ToDo
to_do_in r priority =
    record {
      carry_forward = r.flag;
      priority = priority;
      start = first_in r;
      check_off = check_off_in r;
    }

-- the record of a kind 1 to 6; any other kind is a to-do of priority 0, which is out of range
unfoldable pub record_in : RecordOut → Record
record_in r =
    if_eq r.kind 1 (Record.Dated (dated_in r))
    (if_eq r.kind 2 (Record.Weekly (record { weekday = r.weekday; repeat = repeat_in r }))
    (if_eq r.kind 3 (Record.MonthlyByDate (record { day = r.day; repeat = repeat_in r }))
    (if_eq r.kind 4 (Record.MonthlyByPosition (record { week = r.week; weekday = r.weekday; repeat = repeat_in r }))
    (if_eq r.kind 5 (Record.Yearly (record { month = r.month; day = r.day; repeat = repeat_in r }))
    (if_eq r.kind 6 (Record.ToDo (to_do_in r r.priority)) (Record.ToDo (to_do_in r 0)))))))
