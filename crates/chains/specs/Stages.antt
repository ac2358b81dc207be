-- What is known after stages of the judgement: sizes; all stages passed; heads that are records; links by which every chain ends.
-- Assumes nothing.
use Rattle.std.specs.Prelude.{Ok, ℕ, ◌<◌, ◌≤◌, ◌≡◌, false, length}
use mathlib.Core.List.{List, [], Memᴰ}
use Rattle.prelude.specs.Choice.{if_lt}
use Rattle.prelude.specs.Verdicts.{in_turn}
use Rattle.chains.specs.Chains.{field_of, most_chain_records, entries, days, head_at, head_bad, walk, chain_at, next_bad, entry_verdict, head_verdict, links_verdict, order_verdict}
use Rattle.chains.specs.Shown.{after}

-- the arrays are equally long, at most 4,096
pub record EqualLengths (previous next kind minute : List ℕ) : Type 0 where
  pub nexts : length next ≡ length previous
  pub kinds : length kind ≡ length previous
  pub minutes : length minute ≡ length previous
  pub most : length previous ≤ most_chain_records

-- all stages: the sizes are right, the table has an entry, and no verdict is a refusal
pub record Passed (t previous next kind minute : List ℕ) : Type 0 where
  pub sizes : EqualLengths previous next kind minute
  pub some : 0 < entries t
  pub entry-fine : in_turn (entry_verdict t) (entries t) 0 ≡ Ok tt
  pub head_fine : in_turn (head_verdict t previous) (days t) 0 ≡ Ok tt
  pub links-fine : in_turn (links_verdict t previous next) (days t) 0 ≡ Ok tt
  pub order-fine : in_turn (order_verdict t next kind minute) (days t) 0 ≡ Ok tt

-- the heads of the first k entries are records, of which there are n
abbrev pub HeadsIn : List ℕ → ℕ → ℕ → Type 0
HeadsIn t k n = (i : ℕ) → i < k → head_at t i < n

-- no head and no next is bad
pub record Linked (t previous next : List ℕ) : Type 0 where
  pub equal : length next ≡ length previous
  pub most : length previous ≤ most_chain_records
  pub heads : (i : ℕ) → i < days t → head_bad t previous i ≡ false
  pub nexts : (i : ℕ) → i < days t → (r : ℕ) → Memᴰ r (chain_at t next i) → next_bad previous next r ≡ false

-- the first j steps from r on stay in range
abbrev pub StepsIn : List ℕ → ℕ → ℕ → Type 0
StepsIn next r j = (i : ℕ) → i < j → field_of next (after next r i) < length next

-- a walk from a record of the array that ends after fewer than n steps
pub record EndsIn (next : List ℕ) (r n : ℕ) : Type 0 where
  pub from : r < length next
  pub count : ℕ
  pub within : count < n
  pub steps : StepsIn next r count
  pub out : length next ≤ field_of next (after next r count)

-- the chains of the first k entries end
abbrev pub ChainsEnd : List ℕ → ℕ → List ℕ → Type 0
ChainsEnd t k next = (i : ℕ) → i < k → EndsIn next (head_at t i) (length next)

-- what is left of a walk at r: nothing where that is out of range
abbrev pub ahead : List ℕ → ℕ → List ℕ
ahead next r = if_lt r (length next) (walk (length next) next r) []
