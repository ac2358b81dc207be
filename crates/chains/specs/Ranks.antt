-- Ranks, the code's way to test a record's values and its place in the chain by one number.
-- Assumes nothing.
use Rattle.std.specs.Prelude.{Ok, ℕ, ◌+◌, List, [], ◌∷◌}
use Rattle.prelude.specs.Choice.{if_lt, if_eq}
use Rattle.prelude.specs.Refusals.{bad_chain_order}
use Rattle.prelude.specs.Verdicts.{refused}
use Rattle.chains.specs.Chains.{field_of}
use Rattle.prelude.specs.Verdicts.{Verdict}

-- a record's rank in its day: events, appointments by minute, to-dos; 0 where its values are bad
unfoldable pub rank : ℕ → ℕ → ℕ
rank kind minute =
    if_eq kind 1 (if_lt 1439 minute 0 (minute + 2))
    (if_eq kind 0 1 (if_eq kind 2 1442 0))

-- along a chain, after a record of rank low
unfoldable pub ranked : List ℕ → List ℕ → ℕ → List ℕ → Verdict
ranked kind minute low [] = Ok tt
ranked kind minute low (r ∷ rs) =
    if_lt (rank (field_of kind r) (field_of minute r)) low (refused bad_chain_order r)
    (ranked kind minute (rank (field_of kind r) (field_of minute r)) rs)
