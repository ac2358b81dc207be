-- Days across C: number 0 and the values, or the refusal with every value 0.
-- Assumes nothing.
use Rattle.std.specs.Prelude.{Result, Ok, Err, ℕ}
use Rattle.days.specs.declared.types.DayFacts.{DayFacts}
use Rattle.marshal.specs.declared.day_answers.LengthOut.{LengthOut}
use Rattle.marshal.specs.declared.day_answers.DayOut.{DayOut}
use Rattle.marshal.specs.declared.day_answers.DateOut.{DateOut}
use Rattle.marshal.specs.declared.day_answers.WeekdayOut.{WeekdayOut}
use Rattle.marshal.specs.declared.day_facts.FactsOut.{FactsOut}
use Rattle.prelude.specs.declared.refusals.Refusal.{Refusal}
use Rattle.days.specs.declared.types.CalendarDay.{CalendarDay}
use Rattle.days.specs.declared.types.PsionDay.{PsionDay}
use Rattle.days.specs.declared.types.Date.{Date}

unfoldable pub length_out : Result ℕ Refusal → LengthOut
length_out (Ok n) = record { number = 0; place = 0; length = n }
length_out (Err e) = record { number = e.number; place = e.place; length = 0 }

unfoldable pub day_out : Result CalendarDay Refusal → DayOut
day_out (Ok n) = record { number = 0; place = 0; day = n.0 }
day_out (Err e) = record { number = e.number; place = e.place; day = 0 }

unfoldable pub psion_out : Result PsionDay Refusal → DayOut
psion_out (Ok p) = record { number = 0; place = 0; day = p.0 }
psion_out (Err e) = record { number = e.number; place = e.place; day = 0 }

unfoldable pub date_out : Result Date Refusal → DateOut
date_out (Ok d) = record { number = 0; place = 0; year = d.year; month = d.month; day = d.day }
date_out (Err e) = record { number = e.number; place = e.place; year = 0; month = 0; day = 0 }

unfoldable pub weekday_out : Result ℕ Refusal → WeekdayOut
weekday_out (Ok w) = record { number = 0; place = 0; weekday = w }
weekday_out (Err e) = record { number = e.number; place = e.place; weekday = 0 }

unfoldable pub facts_out : Result DayFacts Refusal → FactsOut
facts_out (Ok f) =
    record {
      number = 0;
      place = 0;
      calendar_day = f.day.0;
      year = f.date.year;
      month = f.date.month;
      day = f.date.day;
      weekday = f.weekday;
      month_length = f.length;
    }
facts_out (Err e) =
    record {
      number = e.number;
      place = e.place;
      calendar_day = 0;
      year = 0;
      month = 0;
      day = 0;
      weekday = 0;
      month_length = 0;
    }

-- the facts that a caller handed over; number and place are not read
abbrev pub facts_in : FactsOut → DayFacts
facts_in c =
    record {
      day = record { 0 = c.calendar_day };
      date = record { year = c.year; month = c.month; day = c.day };
      weekday = c.weekday;
      length = c.month_length;
    }
