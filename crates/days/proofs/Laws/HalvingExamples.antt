-- Eleven halvings on days of set P (document 01) and at the ends of months.
-- Assumes nothing.
use Rattle.std.specs.Prelude.{ℕ, ◌≡◌, refl}
use Rattle.prelude.specs.Choice.{if_lt, if_eq, if_b}
use Rattle.days.specs.Dates.{leap, month_length}
use Rattle.days.specs.Days.{month_length_at, month_start}
use Rattle.days.specs.Halving.{halve, halved}

-- of day n they leave month i, counted from January 1980 = 0
abbrev leave : ℕ → ℕ → Type 0
leave n i = halved 11 n ≡ record { first = i; count = 1 }

-- 1980-01-01, 1980-02-29, 1993-03-15, 2000-02-29, 2099-12-31
pub set_p : leave 0 0 × leave 59 1 × leave 4822 158 × leave 7364 241 × leave 43829 1439
unfolding halved halve month_start month_length_at month_length leap if_eq if_lt if_b
set_p = (refl, refl, refl, refl, refl)

-- 1980-01-31, 1980-02-01, 1980-03-01, 2099-11-30, 2099-12-01
pub month_ends : leave 30 0 × leave 31 1 × leave 60 2 × leave 43798 1438 × leave 43799 1439
unfolding halved halve month_start month_length_at month_length leap if_eq if_lt if_b
month_ends = (refl, refl, refl, refl, refl)
