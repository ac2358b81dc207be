-- Small tables, computed.
-- Assumes nothing.
use Rattle.std.specs.Prelude.{Result, Ok, Err, ℕ, ◌≡◌, refl, List, [], ◌∷◌, replicate}
use Rattle.prelude.specs.Choice.{if_lt, if_eq, if_b}
use Rattle.prelude.specs.Refusals.{refusal_at}
use Rattle.prelude.specs.Verdicts.{unless_bad, and_then, in_turn}
use Rattle.chains.specs.Chains.{sizes_ok, date_before, entry_bad, head_before, head_bad, walk, next_bad, linked, values_bad, misplaced, ordered_after, ordered, chains_judged, chains_verdict, chains_answered, chains_answer}
use Rattle.prelude.specs.declared.refusals.Refusal.{Refusal}

-- two days: 1 then 0, and 2
abbrev table : List ℕ
table = 93 ∷ 3 ∷ 22 ∷ 1 ∷ 0 ∷ (93 ∷ 3 ∷ 26 ∷ 2 ∷ 0 ∷ (9 ∷ 9 ∷ 9 ∷ 255 ∷ 255 ∷ []))

abbrev refused : ℕ → ℕ → Result ℕ Refusal
refused n p = Err (refusal_at n p)

pub examples :
    (chains_answer table (1 ∷ 65535 ∷ 65535 ∷ []) (65535 ∷ 0 ∷ 65535 ∷ []) (1 ∷ 1 ∷ 2 ∷ []) (600 ∷ 600 ∷ 9999 ∷ []) ≡ Ok 2)
    × (chains_answer table (2 ∷ 65535 ∷ 65535 ∷ []) (65535 ∷ 0 ∷ 65535 ∷ []) (1 ∷ 1 ∷ 2 ∷ []) (600 ∷ 600 ∷ 0 ∷ []) ≡ refused 32 1)
    × (chains_answer table (1 ∷ 65535 ∷ 65535 ∷ []) (65535 ∷ 0 ∷ 65535 ∷ []) (0 ∷ 1 ∷ 2 ∷ []) (600 ∷ 600 ∷ 0 ∷ []) ≡ refused 33 0)
    × (chains_answer (93 ∷ 3 ∷ 22 ∷ 255 ∷ 255 ∷ (1 ∷ 2 ∷ [])) [] [] [] [] ≡ refused 31 0)
    × (chains_answer (93 ∷ 3 ∷ 22 ∷ 255 ∷ 255 ∷ []) [] [] [] [] ≡ Ok 0)
    × (chains_answer [] [] [] [] [] ≡ refused 31 0)
    × (chains_answer table (1 ∷ 65535 ∷ 65535 ∷ []) (65535 ∷ 0 ∷ []) (1 ∷ 1 ∷ 2 ∷ []) (600 ∷ 600 ∷ 0 ∷ []) ≡ refused 30 0)
    -- a next back to its own head; the first of two minutes later than the second; an appointment at 1,440; a head that has a previous
    × (chains_answer table (1 ∷ 65535 ∷ 65535 ∷ []) (1 ∷ 0 ∷ 65535 ∷ []) (1 ∷ 1 ∷ 2 ∷ []) (600 ∷ 600 ∷ 0 ∷ []) ≡ refused 32 0)
    × (chains_answer table (1 ∷ 65535 ∷ 65535 ∷ []) (65535 ∷ 0 ∷ 65535 ∷ []) (1 ∷ 1 ∷ 2 ∷ []) (599 ∷ 600 ∷ 0 ∷ []) ≡ refused 33 0)
    × (chains_answer table (1 ∷ 65535 ∷ 65535 ∷ []) (65535 ∷ 0 ∷ 65535 ∷ []) (2 ∷ 1 ∷ 1 ∷ []) (0 ∷ 1439 ∷ 1440 ∷ []) ≡ refused 33 2)
    × (chains_answer table (1 ∷ 65535 ∷ 0 ∷ []) (65535 ∷ 0 ∷ 65535 ∷ []) (1 ∷ 1 ∷ 2 ∷ []) (600 ∷ 600 ∷ 0 ∷ []) ≡ refused 32 1)
unfolding chains_answer chains_answered chains_verdict chains_judged unless_bad and_then in_turn sizes_ok date_before entry_bad head_before head_bad walk next_bad linked values_bad misplaced ordered_after ordered if_lt if_eq if_b
examples = (refl, refl, refl, refl, refl, refl, refl, refl, refl, refl, refl)

-- the example of source document 004: a date that is none among its days, and records from 0 to 82
abbrev source_table : List ℕ
source_table =
    92 ∷ 5 ∷ 18 ∷ 2 ∷ 0 ∷ 93 ∷ 1 ∷ 29 ∷ 53 ∷ 0 ∷ 93 ∷ 2 ∷ 16 ∷ 78 ∷ 0 ∷ 93 ∷ 2 ∷ 23 ∷ 70 ∷ 0 ∷ 93 ∷ 2 ∷ 30 ∷ 62 ∷ 0
    ∷ 93 ∷ 3 ∷ 15 ∷ 12 ∷ 0 ∷ 93 ∷ 3 ∷ 22 ∷ 11 ∷ 0 ∷ 93 ∷ 3 ∷ 26 ∷ 5 ∷ 0 ∷ 93 ∷ 3 ∷ 28 ∷ 9 ∷ 0 ∷ 93 ∷ 4 ∷ 1 ∷ 8 ∷ 0
    ∷ 93 ∷ 4 ∷ 19 ∷ 3 ∷ 0 ∷ 93 ∷ 4 ∷ 21 ∷ 20 ∷ 0 ∷ 93 ∷ 4 ∷ 24 ∷ 65 ∷ 0 ∷ 93 ∷ 4 ∷ 25 ∷ 74 ∷ 0 ∷ 93 ∷ 5 ∷ 1 ∷ 72 ∷ 0
    ∷ 93 ∷ 10 ∷ 22 ∷ 69 ∷ 0 ∷ 0 ∷ 0 ∷ 0 ∷ 255 ∷ 255 ∷ []

abbrev source_previous : List ℕ
source_previous =
    11 ∷ 4 ∷ 65535 ∷ 65535 ∷ 78 ∷ 65535 ∷ 0 ∷ 0 ∷ 65535 ∷ 65535 ∷ 0 ∷ 65535 ∷ 65535 ∷ 0 ∷ 0 ∷ 0 ∷ 0 ∷ 0 ∷ 0 ∷ 0 ∷ 65535 ∷ 0 ∷ 0 ∷ 0 ∷ 0
    ∷ 0 ∷ 0 ∷ 0 ∷ 0 ∷ 0 ∷ 0 ∷ 0 ∷ 0 ∷ 0 ∷ 0 ∷ 0 ∷ 0 ∷ 0 ∷ 0 ∷ 0 ∷ 0 ∷ 0 ∷ 0 ∷ 0 ∷ 0 ∷ 0 ∷ 0 ∷ 0 ∷ 0 ∷ 0
    ∷ 0 ∷ 0 ∷ 0 ∷ 65535 ∷ 0 ∷ 0 ∷ 0 ∷ 0 ∷ 0 ∷ 0 ∷ 0 ∷ 9 ∷ 65535 ∷ 61 ∷ 0 ∷ 65535 ∷ 20 ∷ 0 ∷ 0 ∷ 65535 ∷ 65535 ∷ 0 ∷ 65535 ∷ 0 ∷ 65535
    ∷ 0 ∷ 0 ∷ 0 ∷ 65535 ∷ 0 ∷ 0 ∷ 0 ∷ 1 ∷ []

abbrev source_next : List ℕ
source_next =
    65535 ∷ 82 ∷ 65535 ∷ 65535 ∷ 1 ∷ 65535 ∷ 0 ∷ 0 ∷ 65535 ∷ 61 ∷ 0 ∷ 0 ∷ 65535 ∷ 0 ∷ 0 ∷ 0 ∷ 0 ∷ 0 ∷ 0 ∷ 0 ∷ 66 ∷ 0 ∷ 0 ∷ 0 ∷ 0
    ∷ 0 ∷ 0 ∷ 0 ∷ 0 ∷ 0 ∷ 0 ∷ 0 ∷ 0 ∷ 0 ∷ 0 ∷ 0 ∷ 0 ∷ 0 ∷ 0 ∷ 0 ∷ 0 ∷ 0 ∷ 0 ∷ 0 ∷ 0 ∷ 0 ∷ 0 ∷ 0 ∷ 0 ∷ 0
    ∷ 0 ∷ 0 ∷ 0 ∷ 65535 ∷ 0 ∷ 0 ∷ 0 ∷ 0 ∷ 0 ∷ 0 ∷ 0 ∷ 63 ∷ 65535 ∷ 65535 ∷ 0 ∷ 65535 ∷ 65535 ∷ 0 ∷ 0 ∷ 65535 ∷ 65535 ∷ 0 ∷ 65535 ∷ 0 ∷ 65535
    ∷ 0 ∷ 0 ∷ 0 ∷ 4 ∷ 0 ∷ 0 ∷ 0 ∷ 65535 ∷ []

-- the source names no kinds and no times: all are events here
pub source_example : chains_answer source_table source_previous source_next (replicate 83 0) (replicate 83 0) ≡ Ok 16
unfolding chains_answer chains_answered chains_verdict chains_judged unless_bad and_then in_turn sizes_ok date_before entry_bad head_before head_bad walk next_bad linked values_bad misplaced ordered_after ordered if_lt if_eq if_b
source_example = refl
