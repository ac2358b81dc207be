-- Notes at the edges of their rule, as the definitions compute them.
-- Assumes nothing.
use Rattle.std.specs.Prelude.{ℕ, ◌≡◌, refl, true, false, List, [], ◌∷◌, ◌++◌, length, replicate}
use Rattle.prelude.specs.Choice.{if_lt, if_eq}
use Rattle.texts.specs.Notes.{lines_of, short_lines, note_ok}
use Rattle.texts.specs.Lines.{to_zero, line_start, line_length}

-- an empty note, and one byte without a zero
pub fewest : (lines_of [] ≡ []) × (lines_of (65 ∷ []) ≡ (65 ∷ []) ∷ [])
unfolding lines_of if_eq
fewest = (refl, refl)

-- eleven empty lines, and one more byte
pub eleven : (lines_of (replicate 11 0) ≡ replicate 11 []) × (note_ok (replicate 11 0) ≡ true)
unfolding lines_of short_lines note_ok if_lt if_eq
eleven = (refl, refl)

pub twelve : (length (lines_of (replicate 11 0 ++ (65 ∷ []))) ≡ 12) × (note_ok (replicate 11 0 ++ (65 ∷ [])) ≡ false)
unfolding lines_of short_lines note_ok if_lt if_eq
twelve = (refl, refl)

-- a line of 39 bytes, and one of 40
pub longest : (note_ok (replicate 39 65) ≡ true) × (note_ok (replicate 40 65) ≡ false)
unfolding lines_of short_lines note_ok if_lt if_eq
longest = (refl, refl)

-- Of 65 66 0 67 line 1 begins at 3 and has one byte; there is no line 2.
abbrev two : List ℕ
two = 65 ∷ (66 ∷ (0 ∷ (67 ∷ [])))

pub places : (line_start two 1 ≡ 3) × (line_length two 1 ≡ 1) × (line_start two 2 ≡ 4)
unfolding to_zero line_start if_eq
places = (refl, refl, refl)
