-- Numbers as text, document 01 "What we read, write and show": as they are printed, and as they stand on a command line.
-- A digit is a byte: 48 to 57 are 0 to 9.
-- Assumes nothing.
use Rattle.std.specs.Prelude.{ℕ, zero, suc, ◌+◌, ◌-◌, ◌*◌, ◌/◌, ◌%◌, Bool, true, false, List, [], ◌∷◌, ◌++◌, length}
use Rattle.prelude.specs.Choice.{if_lt, if_eq}

-- the last decimal digit of n
abbrev pub digit : ℕ → ℕ
digit n = 48 + n % 10

-- "1993-03-15", "10:00-11:00": month, day, hour and minute have two digits, the last two of n
unfoldable pub two : ℕ → List ℕ
two n = digit (n / 10) ∷ (digit n ∷ [])

-- and a year has four
unfoldable pub four : ℕ → List ℕ
four n = two (n / 100) ++ two n

-- plain digits without leading zeros, at most so many of them; the number below never runs out
unfoldable pub decimal_f : ℕ → ℕ → List ℕ
decimal_f zero n = []
decimal_f (suc k) n = if_lt n 10 (digit n ∷ []) (decimal_f k (n / 10) ++ (digit n ∷ []))

-- "A refusal is printed as number, space, place": all digits of n, one for 0
unfoldable pub decimal : ℕ → List ℕ
decimal n = decimal_f (suc n) n

-- "in decimal": the value of a word behind bytes of value v. A byte counts what it has above 48, so that every word has a value.
unfoldable pub value_from : ℕ → List ℕ → ℕ
value_from v [] = v
value_from v (x ∷ xs) = value_from (10 * v + (x - 48)) xs

unfoldable pub value : List ℕ → ℕ
value w = value_from 0 w

-- nothing but the digits 0 to 9
unfoldable pub all_digits : List ℕ → Bool
all_digits [] = true
all_digits (x ∷ xs) = if_lt x 48 false (if_lt 57 x false (all_digits xs))

-- a number has one digit or more; leading zeros are allowed
unfoldable pub is_number : List ℕ → Bool
is_number w = if_eq (length w) 0 false (all_digits w)

-- a value as it is compared with numbers below 65,536: itself, or 65,536 for all that are larger
unfoldable pub capped : ℕ → ℕ
capped n = if_lt n 65536 n 65536
