-- What R-2 asks to be shown: "accepted chains share no record and .. each walk ends within the number of records".
-- Assumes nothing.
use Rattle.std.specs.Prelude.{Result, Ok, ℕ, zero, suc, ◌<◌, ◌≡◌, length}
use mathlib.Core.List.{List, [], ◌∷◌, Memᴰ}
use Rattle.chains.specs.Chains.{field_of, no_record, head_at, days, walk, chain_at}
use Rattle.prelude.specs.declared.refusals.Refusal.{Refusal}

-- the record that is j steps on from r
unfoldable pub after : List ℕ → ℕ → ℕ → ℕ
after next r zero = r
after next r (suc j) = field_of next (after next r j)

-- the first k records from r on, whatever their nexts are
unfoldable pub steps : ℕ → List ℕ → ℕ → List ℕ
steps zero next r = []
steps (suc k) next r = r ∷ steps k next (field_of next r)

-- A walk ends within n records: after fewer than n steps it stands at a record of the array that has no next, and
-- the chain is these steps, no more and no fewer.
pub record Ends (next : List ℕ) (r n : ℕ) : Type 0 where
  pub count : ℕ
  pub within : count < n
  pub inside : after next r count < length next
  pub last : field_of next (after next r count) ≡ no_record
  pub whole : walk n next r ≡ steps (suc count) next r

pub record Shown (t next : List ℕ) : Type 0 where
  pub apart : (i j r : ℕ) → i < j → j < days t → Memᴰ r (chain_at t next i) → Memᴰ r (chain_at t next j) → ⊥
  pub ends : (i : ℕ) → i < days t → Ends next (head_at t i) (length next)

-- what an answer that accepts says
abbrev pub Promised : List ℕ → List ℕ → Result ℕ Refusal → Type 0
Promised t next answer = (n : ℕ) → answer ≡ Ok n → Shown t next
