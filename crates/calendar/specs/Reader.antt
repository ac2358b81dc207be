-- A Calendar file as it is read, document 01 "Order": "20, 21, table length, the descriptors (22), then each day 23 and 24".
-- Assumes nothing.
use Rattle.std.specs.Prelude.{Result, Ok, Err, ℕ, zero, suc, ◌+◌, ◌*◌, Bool, true, false, List, length}
use Rattle.prelude.specs.Choice.{if_lt, if_eq, if_b}
use Rattle.prelude.specs.Bytes.{byte, word}
use Rattle.prelude.specs.Refusals.{calendar_too_long, not_a_calendar, bad_table, bad_block, refusal, refusal_at}
use Rattle.prelude.specs.Verdicts.{and_then}
use Rattle.days.specs.Days.{last_day}
use Rattle.calendar.specs.Lists.{ListWalk, list_walk_from, verdict_in}
use Rattle.calendar.specs.File.{last_block}
use Rattle.prelude.specs.declared.refusals.Refusal.{Refusal}
use Rattle.prelude.specs.Verdicts.{Verdict}

-- "Calendar file over 2,228,224 bytes"
abbrev pub most_bytes : ℕ
most_bytes = 2228224

-- "Head: B5 A2 B0 B3 B3 B0 A2 B5"
unfoldable pub calendar_mark : ℕ → ℕ → ℕ → ℕ → ℕ → ℕ → ℕ → ℕ → Bool
calendar_mark a b c d e g h i =
    if_eq a 0xB5
    (if_eq b 0xA2
    (if_eq c 0xB0
    (if_eq d 0xB3
    (if_eq e 0xB3 (if_eq g 0xB0 (if_eq h 0xA2 (if_eq i 0xB5 true false) false) false) false) false)
    false)
    false)
    false

-- "under 64 bytes or wrong eight bytes"
unfoldable pub calendar_identified : List ℕ → Bool
calendar_identified f =
    if_lt (length f) 64 false
    (calendar_mark (byte f 0) (byte f 1) (byte f 2) (byte f 3) (byte f 4) (byte f 5) (byte f 6) (byte f 7))

-- "count of descriptors"; "Descriptors from byte 64, 12 bytes each"
abbrev pub count_of : List ℕ → ℕ
count_of f = word f 8

abbrev pub table_end : List ℕ → ℕ
table_end f = 64 + 12 * count_of f

-- the descriptor at a place: "day, marks, alarm count, block offset in units of 64, two reserved words"
abbrev pub day_at : List ℕ → ℕ → ℕ
day_at f p = word f p

abbrev pub offset_at : List ℕ → ℕ → ℕ
offset_at f p = word f (p + 6)

abbrev pub block_at : List ℕ → ℕ → ℕ
block_at f p = 64 * offset_at f p

-- a block: "0, day, 1, note bytes, appointment bytes (five words), notes, appointments"
abbrev pub list_place : List ℕ → ℕ → ℕ
list_place f b = b + 10 + word f (b + 6)

abbrev pub list_end : List ℕ → ℕ → ℕ
list_end f b = list_place f b + word f (b + 8)

-- "day over 43,829, or days not strictly rising": k descriptors from place p on, none of a day below low
unfoldable pub table_from : ℕ → List ℕ → ℕ → ℕ → Verdict
table_from zero f p low = Ok tt
table_from (suc k) f p low =
    if_lt last_day (day_at f p) (Err (refusal_at bad_table p))
    (if_lt (day_at f p) low (Err (refusal_at bad_table p)) (table_from k f (p + 12) (day_at f p + 1)))

-- the descriptor at p: "offset with its high bit set or inside head or table; block past the end; block's day, 0 or 1 wrong"
unfoldable pub block_ok : List ℕ → ℕ → Bool
block_ok f p =
    if_lt last_block (offset_at f p) false
    (if_lt (block_at f p) (table_end f) false
    (if_lt (length f) (block_at f p + 10) false
    (if_eq (word f (block_at f p)) 0
    (if_eq (word f (block_at f p + 2)) (day_at f p)
    (if_eq (word f (block_at f p + 4)) 1 (if_lt (length f) (list_end f (block_at f p)) false true) false)
    false)
    false)))

-- the list of the day whose descriptor stands at p
abbrev pub list_of : List ℕ → ℕ → ListWalk
list_of f p = list_walk_from f (list_end f (block_at f p)) 0 (list_place f (block_at f p))

-- a day: 23 at its descriptor, then 24
unfoldable pub day_verdict : List ℕ → ℕ → Verdict
day_verdict f p = if_b (block_ok f p) (verdict_in (list_of f p)) (Err (refusal_at bad_block p))

-- "then each day 23 and 24": k descriptors from place p on
unfoldable pub days_from : ℕ → List ℕ → ℕ → Verdict
days_from zero f p = Ok tt
days_from (suc k) f p = and_then (day_verdict f p) (days_from k f (p + 12))

unfoldable pub calendar_answered : ℕ → Verdict → Result ℕ Refusal
calendar_answered n (Ok tt) = Ok n
calendar_answered n (Err e) = Err e

-- the whole file; "the descriptor, or 64 for the table"
unfoldable pub calendar_of : List ℕ → Result ℕ Refusal
calendar_of f =
    if_lt most_bytes (length f) (Err (refusal calendar_too_long))
    (if_b (calendar_identified f)
    (if_lt (length f) (table_end f) (Err (refusal_at bad_table 64))
    (calendar_answered (count_of f) (and_then (table_from (count_of f) f 64 0) (days_from (count_of f) f 64))))
    (Err (refusal not_a_calendar)))
