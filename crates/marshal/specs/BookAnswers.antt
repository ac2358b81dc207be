-- Books and the lines of notes across C: number 0 and the values, or the refusal with every value 0.
-- Assumes nothing.
use Rattle.std.specs.Prelude.{Result, Ok, Err, false}
use Rattle.book.specs.declared.types.Settings.{Settings}
use Rattle.marshal.specs.declared.book_answers.BookOut.{BookOut}
use Rattle.marshal.specs.declared.book_answers.LineOut.{LineOut}
use Rattle.prelude.specs.declared.refusals.Refusal.{Refusal}
use Rattle.book.specs.declared.types.Book.{Book}
use Rattle.prelude.specs.declared.slices.Stretch.{Stretch}

unfoldable pub book_out : Result Book Refusal → BookOut
book_out (Ok b) =
    record {
      number = 0;
      place = 0;
      records = b.records;
      start = b.settings.start.0;
      granularity = b.settings.granularity;
      lead = b.settings.lead;
      alarm = b.settings.alarm;
      carry_forward = b.settings.carry_forward;
    }
book_out (Err e) =
    record {
      number = e.number;
      place = e.place;
      records = 0;
      start = 0;
      granularity = 0;
      lead = 0;
      alarm = false;
      carry_forward = false;
    }

unfoldable pub line_out : Result Stretch Refusal → LineOut
line_out (Ok s) = record { number = 0; place = 0; at = s.place; length = s.length }
line_out (Err e) = record { number = e.number; place = e.place; at = 0; length = 0 }

-- the settings that a caller handed over, as a book's answer has them
abbrev pub settings_in : BookOut → Settings
settings_in b =
    record {
      start = record { 0 = b.start };
      granularity = b.granularity;
      alarm = b.alarm;
      lead = b.lead;
      carry_forward = b.carry_forward;
    }
