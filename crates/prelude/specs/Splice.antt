-- A list written over another from a place on, as a buffer is filled: `splice`.
-- Assumes nothing.
use Rattle.std.specs.Prelude.{ℕ, ◌+◌, List, ◌++◌, length, take, drop}

-- dst with src written over it from at on
unfoldable pub splice : {A : Type 0} → List A → ℕ → List A → List A
splice dst at src = take at dst ++ (src ++ drop (at + length src) dst)
