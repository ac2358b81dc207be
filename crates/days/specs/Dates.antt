-- Dates of the Gregorian calendar: leap years, month lengths, real dates, the order of dates.
-- Assumes nothing.
use Rattle.std.specs.Prelude.{ℕ, ◌%◌, ◌≤◌, Bool, true, false}
use Rattle.prelude.specs.Choice.{if_lt, if_eq, if_b}
use Rattle.days.specs.declared.types.Date.{Date}

-- every fourth year, of the hundredth years only every four hundredth
unfoldable pub leap : ℕ → Bool
leap y = if_eq (y % 400) 0 true (if_eq (y % 100) 0 false (if_eq (y % 4) 0 true false))

-- the days of a month, 1 = January to 12 = December; 0 for any other number
unfoldable pub month_length : ℕ → ℕ → ℕ
month_length y m =
    if_eq m 2 (if_b (leap y) 29 28)
    (if_eq m 4 30 (if_eq m 6 30 (if_eq m 9 30 (if_eq m 11 30 (if_lt m 1 0 (if_lt 12 m 0 31))))))

-- "dates are real, 1980 to 2099"
unfoldable pub real : Date → Bool
real d =
    if_lt d.year 1980 false
    (if_lt 2099 d.year false
    (if_lt d.month 1 false
    (if_lt 12 d.month false (if_lt d.day 1 false (if_lt (month_length d.year d.month) d.day false true)))))

-- a comes before b: by year, then by month, then by day
unfoldable pub before : Date → Date → Bool
before a b =
    if_lt a.year b.year true
    (if_lt b.year a.year false
    (if_lt a.month b.month true
    (if_lt b.month a.month false (if_lt a.day b.day true false))))

-- the facts of a real date
pub record RealDate (d : Date) : Type 0 where
  pub from : 1980 ≤ d.year
  pub upto : d.year ≤ 2099
  pub january : 1 ≤ d.month
  pub december : d.month ≤ 12
  pub first : 1 ≤ d.day
  pub last : d.day ≤ month_length d.year d.month
