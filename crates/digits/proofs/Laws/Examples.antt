-- Numbers of the project's own size, as the definitions print and read them.
-- Assumes nothing.
use Rattle.std.specs.Prelude.{◌≡◌, refl, true, false, [], ◌∷◌}
use Rattle.prelude.specs.Choice.{if_lt, if_eq}
use Rattle.digits.specs.Digits.{two, four, decimal_f, decimal, value_from, value, all_digits, is_number, capped}

-- 0, 9, 10, the last Calendar day, the largest number of two bytes
pub decimals :
    (decimal 0 ≡ 48 ∷ []) × (decimal 9 ≡ 57 ∷ []) × (decimal 10 ≡ 49 ∷ 48 ∷ []) × (decimal 43829 ≡ 52 ∷ 51 ∷ 56 ∷ 50 ∷ 57 ∷ []) × (decimal 65535 ≡ 54 ∷ 53 ∷ 53 ∷ 51 ∷ 53 ∷ [])
unfolding decimal decimal_f if_lt
decimals = (refl, refl, refl, refl, refl)

-- "1993-03-15"
pub date : (four 1993 ≡ 49 ∷ 57 ∷ 57 ∷ 51 ∷ []) × (two 3 ≡ 48 ∷ 51 ∷ []) × (two 15 ≡ 49 ∷ 53 ∷ [])
unfolding four two
date = (refl, refl, refl)

-- 004822 is a number, and its value 4,822; 2^32 + 4,822 is not taken for it
pub numbers :
    (is_number (48 ∷ 48 ∷ 52 ∷ 56 ∷ 50 ∷ 50 ∷ []) ≡ true) × (value (48 ∷ 48 ∷ 52 ∷ 56 ∷ 50 ∷ 50 ∷ []) ≡ 4822) × (capped (value (52 ∷ 50 ∷ 57 ∷ 52 ∷ 57 ∷ 55 ∷ 50 ∷ 49 ∷ 49 ∷ 56 ∷ [])) ≡ 65536)
unfolding is_number all_digits value value_from capped if_lt if_eq
numbers = (refl, refl, refl)

-- a sign, a blank and the empty word are no numbers
pub others : (is_number (45 ∷ 49 ∷ []) ≡ false) × (is_number (49 ∷ 32 ∷ []) ≡ false) × (is_number [] ≡ false)
unfolding is_number all_digits if_lt if_eq
others = (refl, refl, refl)
