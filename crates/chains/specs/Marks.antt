-- Heads as marks, the code's way to know an earlier entry's head: an array with 1 at the head of each entry so far. The
-- code's array is of booleans, and `bit` makes the numbers of them.
-- Assumes nothing.
use Rattle.std.specs.Prelude.{ℕ, zero, suc, Bool, true, false, List, length, get_or, set, replicate}
use Rattle.prelude.specs.Choice.{if_lt, if_eq}
use Rattle.chains.specs.Chains.{field_of, no_record, head_at}

-- places for n records, none of them marked
abbrev pub no_marks : ℕ → List ℕ
no_marks n = replicate n 0

-- the heads of the first i entries, marked
unfoldable pub marks : ℕ → List ℕ → ℕ → List ℕ
marks n t zero = no_marks n
marks n t (suc i) = set (marks n t i) (head_at t i) 1

-- a head out of range, with a previous, or marked
unfoldable pub head_marked : List ℕ → List ℕ → ℕ → Bool
head_marked previous met h =
    if_lt h (length previous) (if_eq (field_of previous h) no_record (if_eq (get_or met h 0) 0 false true) true) true
