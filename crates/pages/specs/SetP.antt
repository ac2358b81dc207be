-- Document 01, "Small facts to prove (set P)": one table. `Laws.SetP` proves it.
-- Assumes nothing.
use Rattle.std.specs.Prelude.{Some, Ok, Err, ℕ, zero, suc, ◌+◌, ◌≡◌, false, List, [], ◌∷◌}
use Rattle.prelude.specs.Refusals.{out_of_range, refusal}
use Rattle.sorting.specs.Keep.{keep}
use Rattle.days.specs.Dates.{month_length}
use Rattle.days.specs.Days.{day_number, weekday_of}
use Rattle.days.specs.Facts.{facts_of}
use Rattle.days.specs.Answers.{day_answer}
use Rattle.days.specs.declared.types.Date.{Date}
use Rattle.records.specs.declared.types.Repeat.{Repeat}
use Rattle.records.specs.declared.types.Record.{Record}
use Rattle.falls.specs.Falls.{falls}
use Rattle.falls.specs.declared.types.ShortMonth.{ShortMonth}
use Rattle.pages.specs.Next.{next_of}

abbrev pub on : ℕ → ℕ → ℕ → Date
on y m d = record { year = y; month = m; day = d }

-- k days of a month, from its day d on
abbrev pub month_days_from : ℕ → ℕ → ℕ → ℕ → List ℕ
month_days_from y m zero d = []
month_days_from y m (suc k) d = day_number (on y m d) ∷ month_days_from y m k (d + 1)

-- the days of a month
abbrev days_of : ℕ → ℕ → List ℕ
days_of y m = month_days_from y m (month_length y m) 1

pub data Fact : Type 0 where
  -- a date is a day
  date_is : Date → ℕ → Fact
  -- a date is refused
  no_date : Date → Fact
  -- a day is a weekday
  weekday_is : ℕ → ℕ → Fact
  -- on which days of a month a record falls
  falls_in : ShortMonth → Record → ℕ → ℕ → List ℕ → Fact
  -- asked for a record and a day: the next day and the days looked at
  next_is : Record → ℕ → ℕ → ℕ → Fact

abbrev pub FactHolds : Fact → Type 0
FactHolds (date_is d n) = day_answer d ≡ Ok (record { 0 = n })
FactHolds (no_date d) = day_answer d ≡ Err (refusal out_of_range)
FactHolds (weekday_is n w) = weekday_of n ≡ w
FactHolds (falls_in c r y m ds) = keep (λ d. falls c (facts_of d) r) (days_of y m) ≡ ds
FactHolds (next_is r asked found looked) =
    next_of (λ d. falls ShortMonth.Skip (facts_of d) r) asked ≡ record { day = Some (record { 0 = found }); looked = looked }

abbrev pub All : List Fact → Type 0
All [] = Unit {0}
All (x ∷ xs) = FactHolds x × All xs

-- from 1980 to 2099, 10:00 to 11:00
abbrev always : Repeat
always =
    record {
      alarm = false;
      start = record { 0 = 600 };
      first = on 1980 1 1;
      end = record { 0 = 660 };
      last = on 2099 12 31;
      lead = 0;
    }

abbrev pub by_position : ℕ → ℕ → Record
by_position week weekday = Record.MonthlyByPosition (record { week = week; weekday = weekday; repeat = always })

abbrev pub weekly : ℕ → Record
weekly weekday = Record.Weekly (record { weekday = weekday; repeat = always })

abbrev pub monthly : ℕ → Record
monthly day = Record.MonthlyByDate (record { day = day; repeat = always })

abbrev pub yearly : ℕ → ℕ → Record
yearly month day = Record.Yearly (record { month = month; day = day; repeat = always })

abbrev pub facts : List Fact
facts =
    date_is (on 1980 1 1) 0
    ∷ date_is (on 1980 2 29) 59
    ∷ date_is (on 1993 3 15) 4822
    ∷ weekday_is 4822 2
    ∷ date_is (on 2000 2 29) 7364
    ∷ weekday_is 7364 3
    ∷ date_is (on 2099 12 31) 43829
    ∷ weekday_is 43829 5
    ∷ no_date (on 1993 2 29)
    ∷ falls_in ShortMonth.Skip (by_position 2 3) 1993 3 (4816 ∷ [])
    ∷ falls_in ShortMonth.Skip (by_position 5 2) 1993 3 (4836 ∷ [])
    ∷ falls_in ShortMonth.Skip (monthly 31) 1993 4 []
    ∷ falls_in ShortMonth.Last (monthly 31) 1993 4 (4868 ∷ [])
    ∷ falls_in ShortMonth.Last (yearly 2 29) 1993 2 (4807 ∷ [])
    ∷ next_is (weekly 3) 4822 4823 2
    ∷ []
