-- A record's start minute, end minute and alarm mark, document 01 "The book"; a to-do has none.
-- Assumes nothing.
use Rattle.std.specs.Prelude.{false}
use Rattle.records.specs.declared.types.Dated.{Dated}
use Rattle.records.specs.declared.types.Repeat.{Repeat}
use Rattle.records.specs.declared.types.Record.{Record}
use Rattle.falls.specs.declared.types.Times.{Times}

abbrev pub dated_times : Dated → Times
dated_times d = record { start = d.start; end = d.end; alarm = d.alarm }

abbrev pub repeat_times : Repeat → Times
repeat_times r = record { start = r.start; end = r.end; alarm = r.alarm }

unfoldable pub times_of : Record → Times
times_of (Record.Dated d) = dated_times d
times_of (Record.Weekly w) = repeat_times w.repeat
times_of (Record.MonthlyByDate m) = repeat_times m.repeat
times_of (Record.MonthlyByPosition m) = repeat_times m.repeat
times_of (Record.Yearly y) = repeat_times y.repeat
times_of (Record.ToDo t) = record { start = record { 0 = 0 }; end = record { 0 = 0 }; alarm = false }
