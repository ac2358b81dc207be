-- What measuring days comes to: the file's length and 13, from the number of days and the units of their blocks.
-- Assumes nothing.
use Rattle.std.specs.Prelude.{ℕ, ◌+◌, ◌*◌, ◌≤◌, ◌≡◌, refl, true, false, List, [], ◌∷◌, length}
use Rattle.std.proofs.Common.{sym, ap, ◌∙◌, arith, add-zero, add_assoc}
use Rattle.prelude.specs.Choice.{if_lt}
use Rattle.prelude.proofs.Laws.Choice.{is_lt, is_ge, lt_elim}
use Rattle.sorting.specs.Totals.{total}
use Rattle.calendar.specs.File.{Day, units, block_bytes, blocks, first_unit, file_of, last_block}
use Rattle.calendar.proofs.Laws.File.{length-blocks, length-file}
use Rattle.calendar.specs.declared.types.CalendarSettings.{CalendarSettings}
use Rattle.calendar_writer.specs.DayLists.{past_last_block_from, past_last_block}

-- the units that a day's block takes
abbrev pub units_of : Day → ℕ
units_of d = units (length (block_bytes d))

pub blocks-units : (ds : List Day) → length (blocks ds) ≡ 64 * total units_of ds
unfolding blocks total
blocks-units [] = refl
blocks-units (d ∷ ds) = omega (arith, length-blocks d ds, blocks-units ds)

pub file_units : (s : CalendarSettings) (ds : List Day) → length (file_of s ds) ≡ 64 * (first_unit (length ds) + total units_of ds)
file_units s ds = omega (arith, length-file s ds, blocks-units ds)

-- the units before the last block, where u come before the days; `last` where there is no day
unfoldable pub before_last : ℕ → ℕ → List Day → ℕ
before_last last u [] = last
before_last last u (d ∷ ds) = before_last u (u + units_of d) ds

before_least : (last u : ℕ) (ds : List Day) → last ≤ u → last ≤ before_last last u ds
unfolding before_last
before_least last u [] h = omega arith
before_least last u (d ∷ ds) h = omega (arith, before_least u (u + units_of d) ds (omega arith))

past_before : (s u : ℕ) (d : Day) (ds : List Day) → past_last_block_from (s + u) (d ∷ ds) ≡ if_lt last_block (s + before_last u (u + units_of d) ds) true false
unfolding past_last_block_from before_last
past_before s u d [] = refl
past_before s u d (e ∷ ds) =
    let i = past_before s (u + units_of d) e ds in
    let l = before_least (u + units_of d) (u + units_of d + units_of e) ds (omega arith) in
    lt_elim {X = Unit {0}}
    (λ _. past_last_block_from (s + u) (d ∷ (e ∷ ds)) ≡ if_lt last_block (s + before_last (u + units_of d) (u + units_of d + units_of e) ds) true false)
    last_block (s + u) tt tt
    (λ h. is_lt h _ _ ∙ sym (is_lt (omega arith) _ _))
    (λ h. is_ge h _ _ ∙ rw (add_assoc s u (units_of d)) i)

past_none : past_last_block [] ≡ if_lt last_block (first_unit 0 + before_last 0 0 []) true false
unfolding past_last_block past_last_block_from before_last if_lt
past_none = refl

-- 13 by the start of the last block
pub past_last : (ds : List Day) → past_last_block ds ≡ if_lt last_block (first_unit (length ds) + before_last 0 0 ds) true false
unfolding past_last_block before_last
past_last [] = past_none
past_last (d ∷ ds) =
    let u : ℕ = first_unit (length (d ∷ ds)) in
    ap (λ (v : ℕ). past_last_block_from v (d ∷ ds)) (sym (add-zero u)) ∙ past_before u 0 d ds
