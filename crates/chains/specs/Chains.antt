-- HP 200LX day chains, request R-2 and source document 004: the Single Occurrence Table and the chains of records.
-- Assumes nothing.
use Rattle.std.specs.Prelude.{Result, Ok, Err, ℕ, zero, suc, ◌+◌, ◌-◌, ◌*◌, ◌/◌, Bool, true, false, List, [], ◌∷◌, length, get_or}
use Rattle.prelude.specs.Choice.{if_lt, if_eq, if_b}
use Rattle.prelude.specs.Bytes.{byte, word}
use Rattle.prelude.specs.Refusals.{bad_arrays, bad_day_table, bad_chain, bad_chain_order}
use Rattle.prelude.specs.Verdicts.{refused, unless_bad, and_then, in_turn}
use Rattle.prelude.specs.declared.refusals.Refusal.{Refusal}
use Rattle.prelude.specs.Verdicts.{Verdict}

-- "65,535 for none"
abbrev pub no_record : ℕ
no_record = 65535

-- "for each record number its previous, its next .., its kind .. and its start minute, as arrays": 0 past the end
abbrev pub field_of : List ℕ → ℕ → ℕ
field_of xs r = get_or xs r 0

-- "the arrays are equally long, at most 4,096"
abbrev pub most_chain_records : ℕ
most_chain_records = 4096

unfoldable pub sizes_ok : ℕ → ℕ → ℕ → ℕ → Bool
sizes_ok p n k m = if_eq n p (if_eq k p (if_eq m p (if_lt most_chain_records p false true) false) false) false

-- "the Single Occurrence Table, five bytes an entry"; what is left at the end is the last entry, cut short
abbrev pub entries : List ℕ → ℕ
entries t = (length t + 4) / 5

-- the days: the entries before the last
abbrev pub days : List ℕ → ℕ
days t = entries t - 1

-- "0..2 Date (Year, Month, Day)", "3..4 Record Number"; low byte first
abbrev pub head_at : List ℕ → ℕ → ℕ
head_at t i = word t (5 * i + 3)

-- "Dates are compared as bytes, the first one first"
unfoldable pub date_before : List ℕ → ℕ → ℕ → Bool
date_before t i j =
    if_lt (byte t (5 * i)) (byte t (5 * j)) true
    (if_lt (byte t (5 * j)) (byte t (5 * i)) false
    (if_lt (byte t (5 * i + 1)) (byte t (5 * j + 1)) true
    (if_lt (byte t (5 * j + 1)) (byte t (5 * i + 1)) false
    (if_lt (byte t (5 * i + 2)) (byte t (5 * j + 2)) true false))))

-- "the first entry that is cut short, breaks the rise of dates, has 65,535 before the last, or is last without it"
unfoldable pub entry_bad : List ℕ → ℕ → Bool
entry_bad t i =
    if_lt (length t) (5 * i + 5) true
    (if_eq (i + 1) (entries t) (if_eq (head_at t i) no_record false true)
    (if_eq (head_at t i) no_record true (if_eq i 0 false (if_b (date_before t (i - 1) i) false true))))

-- "an earlier entry's": one of the first i
unfoldable pub head_before : List ℕ → ℕ → ℕ → Bool
head_before t h zero = false
head_before t h (suc i) = if_eq (head_at t i) h true (head_before t h i)

-- "each head is in range with no previous and no two entries have the same head"
unfoldable pub head_bad : List ℕ → List ℕ → ℕ → Bool
head_bad t previous i =
    if_lt (head_at t i) (length previous)
    (if_eq (field_of previous (head_at t i)) no_record (head_before t (head_at t i) i) true) true

-- the records from r on along their nexts, k at most; a next out of range ends them
unfoldable pub walk : ℕ → List ℕ → ℕ → List ℕ
walk zero next r = []
walk (suc k) next r = r ∷ if_lt (field_of next r) (length next) (walk k next (field_of next r)) []

-- an entry's chain: its walk, as many as there are records at most
abbrev pub chain_at : List ℕ → List ℕ → ℕ → List ℕ
chain_at t next i = walk (length next) next (head_at t i)

-- "the first next out of range or not named back (the record holding that next)"
unfoldable pub next_bad : List ℕ → List ℕ → ℕ → Bool
next_bad previous next r =
    if_eq (field_of next r) no_record false
    (if_lt (field_of next r) (length previous) (if_eq (field_of previous (field_of next r)) r false true) true)

-- along a chain
unfoldable pub linked : List ℕ → List ℕ → List ℕ → Verdict
linked previous next [] = Ok tt
linked previous next (r ∷ rs) = if_b (next_bad previous next r) (refused bad_chain r) (linked previous next rs)

-- "with a kind over 2, an appointment minute over 1,439"
unfoldable pub values_bad : ℕ → ℕ → Bool
values_bad kind minute = if_lt 2 kind true (if_eq kind 1 (if_lt 1439 minute true false) false)

-- "events come first, then appointments by time (equal allowed), then to-dos": kind l at minute n after kind k at minute m
unfoldable pub misplaced : ℕ → ℕ → ℕ → ℕ → Bool
misplaced k m l n = if_lt l k true (if_eq k 1 (if_eq l 1 (if_lt n m true false) false) false)

-- "33 the first reached record with a kind over 2, an appointment minute over 1,439, or out of order": after record q
unfoldable pub ordered_after : List ℕ → List ℕ → ℕ → List ℕ → Verdict
ordered_after kind minute q [] = Ok tt
ordered_after kind minute q (r ∷ rs) =
    if_b (values_bad (field_of kind r) (field_of minute r)) (refused bad_chain_order r)
    (if_b (misplaced (field_of kind q) (field_of minute q) (field_of kind r) (field_of minute r)) (refused bad_chain_order r)
    (ordered_after kind minute r rs))

-- along a chain, whose first record follows none
unfoldable pub ordered : List ℕ → List ℕ → List ℕ → Verdict
ordered kind minute [] = Ok tt
ordered kind minute (r ∷ rs) =
    if_b (values_bad (field_of kind r) (field_of minute r)) (refused bad_chain_order r) (ordered_after kind minute r rs)

-- what is said of an entry and of its chain
abbrev pub entry_verdict : List ℕ → ℕ → Verdict
entry_verdict t i = unless_bad (entry_bad t i) bad_day_table i

abbrev pub head_verdict : List ℕ → List ℕ → ℕ → Verdict
head_verdict t previous i = unless_bad (head_bad t previous i) bad_chain i

abbrev pub links_verdict : List ℕ → List ℕ → List ℕ → ℕ → Verdict
links_verdict t previous next i = linked previous next (chain_at t next i)

abbrev pub order_verdict : List ℕ → List ℕ → List ℕ → List ℕ → ℕ → Verdict
order_verdict t next kind minute i = ordered kind minute (chain_at t next i)

-- "Refusals, in this order": 31; 32 of the heads, "after all heads" of the nexts, "chain by chain in table order"; 33
unfoldable pub chains_judged : List ℕ → List ℕ → List ℕ → List ℕ → List ℕ → Verdict
chains_judged t previous next kind minute =
    and_then (in_turn (entry_verdict t) (entries t) 0)
    (and_then (in_turn (head_verdict t previous) (days t) 0)
    (and_then (in_turn (links_verdict t previous next) (days t) 0)
    (in_turn (order_verdict t next kind minute) (days t) 0)))

-- "30 array sizes (0)" before them, and 31 for "an empty table: 0"
unfoldable pub chains_verdict : List ℕ → List ℕ → List ℕ → List ℕ → List ℕ → Verdict
chains_verdict t previous next kind minute =
    if_b (sizes_ok (length previous) (length next) (length kind) (length minute))
    (if_eq (entries t) 0 (refused bad_day_table 0) (chains_judged t previous next kind minute))
    (refused bad_arrays 0)

unfoldable pub chains_answered : ℕ → Verdict → Result ℕ Refusal
chains_answered n (Ok tt) = Ok n
chains_answered n (Err e) = Err e

-- accepted: the number of days
unfoldable pub chains_answer : List ℕ → List ℕ → List ℕ → List ℕ → List ℕ → Result ℕ Refusal
chains_answer t previous next kind minute = chains_answered (days t) (chains_verdict t previous next kind minute)
