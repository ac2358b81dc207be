-- Whether a record falls on a day, and if so whether it was moved there: document 02, R-7.
-- Assumes nothing.
use Rattle.std.specs.Prelude.{ℕ, ◌<◌, ◌≡◌, Bool, true, false}
use Rattle.prelude.specs.Choice.{if_lt, if_b}
use Rattle.days.specs.declared.types.DayFacts.{DayFacts}
use Rattle.records.specs.declared.types.Record.{Record}
use Rattle.falls.specs.Falls.{falls}
use Rattle.falls.specs.declared.types.ShortMonth.{ShortMonth}
use Rattle.falls.specs.declared.types.Falling.{Falling}

-- the day of the month that a record names: those "monthly by date and yearly" do, for the others it is 0
unfoldable pub named_day : Record → ℕ
named_day (Record.Dated d) = 0
named_day (Record.Weekly w) = 0
named_day (Record.MonthlyByDate m) = m.day
named_day (Record.MonthlyByPosition m) = 0
named_day (Record.Yearly y) = y.day
named_day (Record.ToDo t) = 0

-- document 01: "these two's day doesn't exist in that month"
unfoldable pub day_missing : DayFacts → Record → Bool
day_missing f r = if_lt f.length (named_day r) true false

-- "The question "does this record fall on this day" now answers no, on its own day, or moved."
unfoldable pub falling : ShortMonth → DayFacts → Record → Falling
falling c f r = if_b (falls c f r) (if_b (day_missing f r) Falling.Moved Falling.Own) Falling.No

-- "treat moved as a showing"
unfoldable pub is_showing : Falling → Bool
is_showing Falling.No = false
is_showing Falling.Own = true
is_showing Falling.Moved = true

-- the record's day of the month is this one; only those two kinds name one
abbrev pub OnNamedDay : DayFacts → Record → Type 0
OnNamedDay f (Record.Dated d) = Unit {0}
OnNamedDay f (Record.Weekly w) = Unit {0}
OnNamedDay f (Record.MonthlyByDate m) = f.date.day ≡ m.day
OnNamedDay f (Record.MonthlyByPosition m) = Unit {0}
OnNamedDay f (Record.Yearly y) = f.date.day ≡ y.day
OnNamedDay f (Record.ToDo t) = Unit {0}

-- it is one that the month does not have
abbrev pub NamesMissing : DayFacts → Record → Type 0
NamesMissing f (Record.Dated d) = ⊥
NamesMissing f (Record.Weekly w) = ⊥
NamesMissing f (Record.MonthlyByDate m) = f.length < m.day
NamesMissing f (Record.MonthlyByPosition m) = ⊥
NamesMissing f (Record.Yearly y) = f.length < y.day
NamesMissing f (Record.ToDo t) = ⊥

-- what each answer says: it does not fall; it falls, on the day that it names; it falls on a month's last day because of "last"
abbrev pub Says : ShortMonth → DayFacts → Record → Falling → Type 0
Says c f r Falling.No = falls c f r ≡ false
Says c f r Falling.Own = (falls c f r ≡ true) × OnNamedDay f r
Says c f r Falling.Moved = (falls c f r ≡ true) × (c ≡ ShortMonth.Last) × (f.date.day ≡ f.length) × NamesMissing f r
