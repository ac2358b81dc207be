-- Day pages and the next occurrence across C: number 0 and the values, or the refusal with every value 0.
-- Assumes nothing.
use Rattle.std.specs.Prelude.{Option, Some, None, Result, Ok, Err, ℕ, Bool, true, false}
use Rattle.prelude.specs.Choice.{if_b}
use Rattle.days.specs.declared.types.CalendarDay.{CalendarDay}
use Rattle.falls.specs.declared.types.Falling.{Falling}
use Rattle.falls.specs.declared.types.ShortMonth.{ShortMonth}
use Rattle.marshal.specs.declared.page_answers.FallsOut.{FallsOut}
use Rattle.marshal.specs.declared.page_answers.PageLineOut.{PageLineOut}
use Rattle.marshal.specs.declared.page_answers.OccurrenceOut.{OccurrenceOut}
use Rattle.prelude.specs.declared.refusals.Refusal.{Refusal}
use Rattle.pages.specs.declared.types.Line.{Line}
use Rattle.pages.specs.declared.types.Search.{Search}

abbrev pub day_of : ℕ → CalendarDay
day_of n = record { 0 = n }

-- whether a missing day shows on the month's last day
unfoldable pub choice_of : Bool → ShortMonth
choice_of last = if_b last ShortMonth.Last ShortMonth.Skip

-- APPTBOOK_FALLS_NOT, APPTBOOK_FALLS_ON_ITS_DAY, APPTBOOK_FALLS_MOVED
unfoldable pub falling_out : Falling → ℕ
falling_out Falling.No = 0
falling_out Falling.Own = 1
falling_out Falling.Moved = 2

unfoldable pub falls_out : Result Falling Refusal → FallsOut
falls_out (Ok b) = record { number = 0; place = 0; falls = falling_out b }
falls_out (Err e) = record { number = e.number; place = e.place; falls = 0 }

unfoldable pub page_line_out : Result Line Refusal → PageLineOut
page_line_out (Ok l) =
    record {
      number = 0;
      place = 0;
      «record» = l.number;
      text_at = l.text.place;
      text_length = l.text.length;
      start = l.start.0;
      end = l.end.0;
      alarm = l.alarm;
      moved = l.moved;
    }
page_line_out (Err e) =
    record {
      number = e.number;
      place = e.place;
      «record» = 0;
      text_at = 0;
      text_length = 0;
      start = 0;
      end = 0;
      alarm = false;
      moved = false;
    }

-- found, or none with the days looked at
unfoldable pub search_out : ℕ → Option CalendarDay → OccurrenceOut
search_out n (Some d) = record { number = 0; place = 0; looked = n; day = d.0; found = true }
search_out n None = record { number = 0; place = 0; looked = n; day = 0; found = false }

unfoldable pub next_out : Result Search Refusal → OccurrenceOut
next_out (Ok s) = search_out s.looked s.day
next_out (Err e) = record { number = e.number; place = e.place; looked = 0; day = 0; found = false }
