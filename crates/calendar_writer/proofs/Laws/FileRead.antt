-- A Calendar file as it is written is accepted, and shows every day as it was written.
-- Assumes nothing.
use Rattle.std.specs.Prelude.{Ok, ℕ, ◌+◌, ◌*◌, ◌<◌, ◌≤◌, ◌≡◌, true, List, [], ◌∷◌, ◌++◌, length}
use Rattle.std.proofs.Common.{sym, ap, append_assoc, append-nil, arith}
use Rattle.prelude.specs.Choice.{if_eq}
use Rattle.prelude.proofs.Laws.Choice.{is_ge}
use Rattle.prelude.specs.Bytes.{le16}
use Rattle.calendar.specs.File.{Day, units, filled, block_bytes, blocks, table, head_bytes, first_unit, file_of}
use Rattle.calendar.specs.Reader.{most_bytes, calendar_mark, calendar_identified, count_of, table_end, calendar_of}
use Rattle.calendar.specs.Shown.{places_on, appointments_on}
use Rattle.calendar.proofs.Laws.Reader.{facts_calendar}
use Rattle.calendar.proofs.Laws.File.{length_block, length-table, length_head, length-filled, filled_piece, length-blocks, length-file}
use Rattle.calendar.specs.declared.types.CalendarSettings.{CalendarSettings}
use Rattle.calendar_writer.proofs.Laws.From.{From, from_start, from-recast, from-place-equal, from-skip, word-here}
use Rattle.calendar_writer.proofs.Laws.TableRead.{GoodDays, list_on, TableRead, table-read}

-- the blocks end in time: the last starts below block 32,768 and has at most 65,545 bytes
blocks_end : (low u : ℕ) (ds : List Day) → u ≤ 34816 → GoodDays low u ds → 64 * u + length (blocks ds) ≤ most_bytes
unfolding blocks
blocks_end low u [] h g = omega arith
blocks_end low u (d ∷ ds) h g =
    let n = length_block d in
    let b = length-blocks d ds in
    let s = g.0.size in
    let i = blocks_end (d.day + 1) (u + units (length (block_bytes d))) ds (omega arith) g.3 in
    omega arith

module _ (s : CalendarSettings) (ds : List Day) where
  abbrev file : List ℕ
  file = file_of s ds

  abbrev first : ℕ
  first = first_unit (length ds)

  named : calendar_identified file ≡ true
  unfolding calendar_identified calendar_mark if_eq file_of head_bytes
  named = is_ge (omega (arith, length-file s ds)) _ _

  -- the count stands behind the eight bytes
  pub file-counted : length ds < 65536 → count_of file ≡ length ds
  unfolding file_of head_bytes
  file-counted h =
      let c : From file 8 ((le16 (length ds) ++ _) ++ _) = from-skip (0xB5 ∷ (0xA2 ∷ (0xB0 ∷ (0xB3 ∷ (0xB3 ∷ (0xB0 ∷ (0xA2 ∷ (0xB5 ∷ [])))))))) (from_start file) in
      (word-here (length ds) h (from-recast c (append_assoc (le16 (length ds)) _ _))).0

  behind-head : From file 64 (filled (table first ds) ++ blocks ds)
  unfolding file_of
  behind-head = from-place-equal (from-skip (head_bytes s (length ds)) (from_start file)) (omega (arith, length_head s (length ds)))

  at-blocks : From file (64 * first) (blocks ds)
  at-blocks =
      let t = length-table first ds in
      from-place-equal (from-skip (filled (table first ds)) behind-head) (omega (arith, length-filled (table first ds)))

  -- at most 65,535 days that the reader takes as they are
  module _ (few : length ds < 65536) (good : GoodDays 0 first ds) where
    abbrev table-end : table_end file ≡ 64 + 12 * length ds
    table-end = ap (λ (n : ℕ). 64 + 12 * n) (file-counted few)

    read : TableRead file 64 0 ds
    read = table-read 64 first 0 ds _ [] good (omega (arith, table-end)) (from-recast behind-head (filled_piece (table first ds) (blocks ds))) (from-recast at-blocks (sym (append-nil (blocks ds))))

    pub file-accepted : calendar_of file ≡ Ok (length ds)
    file-accepted =
        let c : count_of file ≡ length ds = file-counted few in
        let l : length file ≡ 64 * first + length (blocks ds) = length-file s ds in
        facts_calendar file (length ds)
        (record {
          size = omega (arith, blocks_end 0 first ds (omega arith) good);
          named = named;
          count = sym c;
          whole = omega arith;
          rises = rw c read.rises;
          days = rw c read.days;
        })

    pub file-shows : (x : ℕ) → appointments_on file x ≡ list_on x ds
    unfolding appointments_on places_on
    file-shows x = rw (file-counted few) (read.shown x)
