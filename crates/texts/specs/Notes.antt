-- The rules of text and note, document 01 "Ranges". Against them the refusal is 8.
-- Assumes nothing.
use Rattle.std.specs.Prelude.{ℕ, Bool, true, false, List, [], ◌∷◌, length}
use Rattle.prelude.specs.Choice.{if_lt, if_eq}

-- "Text: at most 27 bytes .. Note: at most 440 bytes; .. at most 11 lines of at most 39 bytes"
abbrev pub most_text : ℕ
most_text = 27

abbrev pub most_note : ℕ
most_note = 440

abbrev pub most_lines : ℕ
most_lines = 11

abbrev pub most_line : ℕ
most_line = 39

-- "Text: .. no zero byte."
unfoldable pub no_zero : List ℕ → Bool
no_zero [] = true
no_zero (x ∷ xs) = if_eq x 0 false (no_zero xs)

-- a byte in front of the lines after it: it begins the first of them
abbrev pub in_front : ℕ → List (List ℕ) → List (List ℕ)
in_front x [] = (x ∷ []) ∷ []
in_front x (l ∷ ls) = (x ∷ l) ∷ ls

-- "a zero byte ends a line; bytes after the last zero form one more line if there are any"
unfoldable pub lines_of : List ℕ → List (List ℕ)
lines_of [] = []
lines_of (x ∷ xs) = if_eq x 0 ([] ∷ lines_of xs) (in_front x (lines_of xs))

-- "lines of at most 39 bytes"
unfoldable pub short_lines : List (List ℕ) → Bool
short_lines [] = true
short_lines (l ∷ ls) = if_lt most_line (length l) false (short_lines ls)

-- "Note: at most 440 bytes; .. at most 11 lines of at most 39 bytes"
unfoldable pub note_ok : List ℕ → Bool
note_ok n = if_lt most_note (length n) false (if_lt most_lines (length (lines_of n)) false (short_lines (lines_of n)))
