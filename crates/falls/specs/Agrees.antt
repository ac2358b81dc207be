-- The one byte of a body on which most days fail: whether it agrees with a day.
-- Assumes nothing.
use Rattle.std.specs.Prelude.{ℕ, Bool, true, false, List}
use Rattle.prelude.specs.Bytes.{byte}
use Rattle.prelude.specs.Choice.{if_eq}
use Rattle.days.specs.declared.types.DayFacts.{DayFacts}
use Rattle.falls.specs.Falls.{on_day}
use Rattle.falls.specs.declared.types.ShortMonth.{ShortMonth}

unfoldable pub agrees : ShortMonth → DayFacts → ℕ → List ℕ → Bool
agrees c f t p =
    if_eq t 1 (if_eq f.date.day (byte p 3) true false)
    (if_eq t 2 (if_eq f.weekday (byte p 1) true false)
    (if_eq t 3 (on_day c f (byte p 1))
    (if_eq t 4 (if_eq f.weekday (byte p 2) true false)
    (if_eq t 5 (if_eq f.date.month (byte p 1) true false) false))))
