-- Dates as numbers, the code's way to compare three bytes at once.
-- Assumes nothing.
use Rattle.std.specs.Prelude.{ℕ, zero, suc, ◌+◌, ◌*◌, Bool, true, false, List}
use Rattle.prelude.specs.Choice.{if_lt, if_eq}
use Rattle.prelude.specs.Bytes.{byte}
use Rattle.chains.specs.Chains.{no_record}

abbrev pub date_number : List ℕ → ℕ → ℕ
date_number t i = 65536 * byte t (5 * i) + 256 * byte t (5 * i + 1) + byte t (5 * i + 2)

-- the least date that entry i may have: above that of the entry before it
abbrev pub least_date : List ℕ → ℕ → ℕ
least_date t zero = 0
least_date t (suc i) = date_number t i + 1

-- an entry before the last, by its head, its date and the least date: with 65,535, or out of the rise
unfoldable pub day_bad : ℕ → ℕ → ℕ → Bool
day_bad head date low = if_eq head no_record true (if_lt date low true false)
