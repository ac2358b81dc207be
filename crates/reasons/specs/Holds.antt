-- What each reason says, as support would tell it on the phone, and "the first that holds": what R-8 asks to be shown.
-- These statements stand apart from the tests by which the reason is found; `reason-first` ties the two.
-- Assumes nothing.
use Rattle.std.specs.Prelude.{Result, Ok, ℕ, ◌≡◌, true, List, [], ◌∷◌, ◌⊎◌, get_or}
use Rattle.std.proofs.Math.Option.{Option, none, some}
use Rattle.prelude.specs.Choice.{if_b}
use Rattle.sorting.specs.Keep.{keep}
use Rattle.days.specs.Dates.{before}
use Rattle.days.specs.Facts.{facts_of}
use Rattle.days.specs.declared.types.CalendarDay.{CalendarDay}
use Rattle.days.specs.declared.types.Date.{Date}
use Rattle.days.specs.declared.types.DayFacts.{DayFacts}
use Rattle.records.specs.declared.types.Record.{Record}
use Rattle.book.specs.Books.{places_of}
use Rattle.falls.specs.Falls.{week_of_month}
use Rattle.falls.specs.Moved.{NamesMissing, Says}
use Rattle.falls.specs.declared.types.Falling.{Falling}
use Rattle.falls.specs.declared.types.ShortMonth.{ShortMonth}
use Rattle.pages.specs.Pages.{page_on}
use Rattle.pages.specs.Invariants.{record_at}
use Rattle.pages.proofs.Laws.PageFacts.{of_number}
use Rattle.reasons.specs.Reasons.{first_date, last_date, own_month, own_day, own_weekday, own_week, is_to_do, says_shown}
use Rattle.reasons.specs.declared.types.Reason.{Reason}
use Rattle.prelude.specs.declared.refusals.Refusal.{Refusal}

-- there is a date, and d is before it
abbrev pub Earlier : Date → Option Date → Type 0
Earlier d none = ⊥
Earlier d (some e) = before d e ≡ true

-- there is a date, and d is after it
abbrev pub Later : Date → Option Date → Type 0
Later d none = ⊥
Later d (some e) = before e d ≡ true

-- there is a number, and n is another
abbrev pub Differs : ℕ → Option ℕ → Type 0
Differs n none = ⊥
Differs n (some m) = n ≡ m → ⊥

-- what is true of the record, the day and the choice where the reason is given
abbrev pub Holds : ShortMonth → DayFacts → Record → Reason → Type 0
-- "It is on that day, and if it goes by a day of the month, by that one."
Holds c f r Reason.OwnDay = Says c f r Falling.Own
-- "You asked for last. That month does not have its day, so it is on the month's last."
Holds c f r Reason.Moved = Says c f r Falling.Moved
-- "It is a to-do. Those are on no day."
Holds c f r Reason.IsToDo = is_to_do r ≡ true
-- "It starts later."
Holds c f r Reason.BeforeStart = Earlier f.date (first_date r)
-- "It was over by then."
Holds c f r Reason.AfterEnd = Later f.date (last_date r)
-- "It is for another month."
Holds c f r Reason.WrongMonth = Differs f.date.month (own_month r)
-- "You asked for skip. That is the month's last day, and the month does not have the day that it is for."
Holds c f r Reason.MonthTooShort = (c ≡ ShortMonth.Skip) × (f.date.day ≡ f.length) × NamesMissing f r
-- "It is for another day of the month."
Holds c f r Reason.WrongDay = Differs f.date.day (own_day r)
-- "It is for another weekday."
Holds c f r Reason.WrongWeekday = Differs f.weekday (own_weekday r)
-- "It is for another week of the month."
Holds c f r Reason.WrongWeek = Differs (week_of_month f) (own_week r)

-- "on its own day, moved, or the first that holds of: is a to-do, before start, .."
abbrev pub in_order : List Reason
in_order =
    Reason.OwnDay ∷ Reason.Moved ∷ Reason.IsToDo ∷ Reason.BeforeStart ∷ Reason.AfterEnd ∷ Reason.WrongMonth ∷ Reason.MonthTooShort ∷ Reason.WrongDay ∷ Reason.WrongWeekday ∷ Reason.WrongWeek ∷ []

-- q is the first of the list that holds: it holds, and none before it does
abbrev pub First : (Reason → Type 0) → Reason → List Reason → Type 0
First H q [] = ⊥
First H q (x ∷ xs) = ((x ≡ q) × H q) ⊎ ((H x → ⊥) × First H q xs)

-- what a reason that is given for the record of a number says
pub record Explained (f : List ℕ) (c : ShortMonth) (d : DayFacts) (k : ℕ) (q : Reason) : Type 0 where
  -- "each reason given is true"
  pub holds : Holds c d (record_at f k (get_or (places_of f) k 0)).entry.«record» q
  -- it is the first that holds
  pub first : First (Holds c d (record_at f k (get_or (places_of f) k 0)).entry.«record») q in_order
  -- "the reason says "shown" exactly when the page has the record": of that number the page has one line, or none
  pub page : keep (of_number k) (page_on c d f) ≡ if_b (says_shown q) (record_at f k (get_or (places_of f) k 0) ∷ []) []

-- what an answer with a reason says
abbrev pub Promised : List ℕ → ShortMonth → CalendarDay → ℕ → Result Reason Refusal → Type 0
Promised f c n k answer = (q : Reason) → answer ≡ Ok q → Explained f c (facts_of n.0) k q
