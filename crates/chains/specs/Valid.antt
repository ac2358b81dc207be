-- R-2's "Accept exactly when", sentence by sentence. `accepted-valid` and `valid-accepted` (Laws.Valid): just these chains are accepted.
-- Assumes nothing.
use Rattle.std.specs.Prelude.{ℕ, ◌+◌, ◌*◌, ◌<◌, ◌≤◌, ◌≡◌, true, length}
use mathlib.Core.List.{List, [], ◌∷◌, Memᴰ}
use Rattle.chains.specs.Chains.{field_of, no_record, days, head_at, date_before, chain_at}
use Rattle.chains.specs.Stages.{EqualLengths}

-- "kinds are 0 to 2 and appointment minutes at most 1,439"
abbrev pub InRange : List ℕ → List ℕ → ℕ → Type 0
InRange kind minute r = (field_of kind r ≤ 2) × (field_of kind r ≡ 1 → field_of minute r ≤ 1439)

-- "events come first, then appointments by time (equal allowed), then to-dos": r may follow q
pub record InOrder (kind minute : List ℕ) (q r : ℕ) : Type 0 where
  pub kinds : field_of kind q ≤ field_of kind r
  pub times : field_of kind q ≡ 1 → field_of kind r ≡ 1 → field_of minute q ≤ field_of minute r

-- along a chain, after record q
unfoldable pub SortedAfter : List ℕ → List ℕ → ℕ → List ℕ → Type 0
SortedAfter kind minute q [] = Unit
SortedAfter kind minute q (r ∷ rs) = InOrder kind minute q r × SortedAfter kind minute r rs

unfoldable pub ChainSorted : List ℕ → List ℕ → List ℕ → Type 0
ChainSorted kind minute [] = Unit
ChainSorted kind minute (r ∷ rs) = SortedAfter kind minute r rs

pub record ValidChains (t previous next kind minute : List ℕ) : Type 0 where
  -- "the arrays are equally long, at most 4,096"
  pub sizes : EqualLengths previous next kind minute
  -- "the table is whole entries whose last, and only the last, has record 65,535"
  pub whole : length t ≡ 5 * days t + 5
  pub last : head_at t (days t) ≡ no_record
  pub only : (i : ℕ) → i < days t → head_at t i ≡ no_record → ⊥
  -- "dates rise strictly before it"
  pub dates : (i : ℕ) → i + 1 < days t → date_before t i (i + 1) ≡ true
  -- "each head is in range with no previous and no two entries have the same head"
  pub heads : (i : ℕ) → i < days t → (head_at t i < length previous) × (field_of previous (head_at t i) ≡ no_record)
  pub apart : (i j : ℕ) → i < j → j < days t → head_at t i ≡ head_at t j → ⊥
  -- "along each chain every next record names its predecessor back"
  pub links : (i r : ℕ) → i < days t → Memᴰ r (chain_at t next i) → (field_of next r ≡ no_record → ⊥) → (field_of next r < length previous) × (field_of previous (field_of next r) ≡ r)
  -- "reached kinds are 0 to 2 and appointment minutes at most 1,439"
  pub values : (i r : ℕ) → i < days t → Memᴰ r (chain_at t next i) → InRange kind minute r
  -- "events come first, then appointments by time (equal allowed), then to-dos"
  pub order : (i : ℕ) → i < days t → ChainSorted kind minute (chain_at t next i)
