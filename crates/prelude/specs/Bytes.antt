-- The bytes of a list by place, 0 past its end, and whole numbers of two bytes: low byte first (`word`, `le16`) and high byte first (`word_high`, `be16`).
-- Assumes nothing.
use Rattle.std.specs.Prelude.{ℕ, ◌+◌, ◌*◌, ◌/◌, ◌%◌, ◌<◌, Bool, List, [], ◌∷◌, get_or, take, drop}
use Rattle.prelude.specs.Choice.{if_b}
use Rattle.prelude.specs.declared.slices.Stretch.{Stretch}

-- the byte at a place
abbrev pub byte : List ℕ → ℕ → ℕ
byte f p = get_or f p 0

-- the number of two bytes at a place, low byte first
abbrev pub word : List ℕ → ℕ → ℕ
word f p = byte f p + 256 * byte f (p + 1)

-- the same, high byte first
abbrev pub word_high : List ℕ → ℕ → ℕ
word_high f p = 256 * byte f p + byte f (p + 1)

-- the n bytes from a, as many of them as there are
abbrev pub part : List ℕ → ℕ → ℕ → List ℕ
part s a n = take n (drop a s)

-- the bytes of a stretch
abbrev pub stretch_bytes : List ℕ → Stretch → List ℕ
stretch_bytes f s = part f s.place s.length

-- a mark as a number
unfoldable pub bit : Bool → ℕ
bit b = if_b b 1 0

-- a number as two bytes, low byte first
unfoldable pub le16 : ℕ → List ℕ
le16 n = n % 256 ∷ (n / 256 % 256 ∷ [])

-- the same, high byte first
unfoldable pub be16 : ℕ → List ℕ
be16 n = n / 256 % 256 ∷ (n % 256 ∷ [])

-- each element is below 256
abbrev pub Bytes : List ℕ → Type 0
Bytes [] = Unit {0}
Bytes (x ∷ xs) = (x < 256) × Bytes xs
