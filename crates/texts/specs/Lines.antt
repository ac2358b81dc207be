-- Where the lines of a note lie in it. Bytes are counted from 0, and lines too.
-- Assumes nothing.
use Rattle.std.specs.Prelude.{ℕ, zero, suc, List, [], ◌∷◌, drop}
use Rattle.prelude.specs.Choice.{if_eq}
use Rattle.prelude.specs.declared.slices.Stretch.{Stretch}

-- how many bytes there are before the first zero, or before the end where there is none
unfoldable pub to_zero : List ℕ → ℕ
to_zero [] = 0
to_zero (x ∷ xs) = if_eq x 0 0 (suc (to_zero xs))

-- the place where line k begins: 0 for line 0, for any other the place behind the zero that ends the line before it; the end where there is no line k
unfoldable pub line_start : List ℕ → ℕ → ℕ
line_start [] k = 0
line_start (x ∷ xs) zero = 0
line_start (x ∷ xs) (suc k) = suc (if_eq x 0 (line_start xs k) (line_start xs (suc k)))

-- the line's length: its zero is no part of it
abbrev pub line_length : List ℕ → ℕ → ℕ
line_length n k = to_zero (drop (line_start n k) n)

-- both
abbrev pub line_at : List ℕ → ℕ → Stretch
line_at n k = record { place = line_start n k; length = line_length n k }
