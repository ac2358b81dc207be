-- Laws of the Calendar file as it is written: its recursions one element at a time, how long each part is, and where table and blocks begin.
-- Assumes nothing.
use Rattle.std.specs.Prelude.{ℕ, ◌+◌, ◌-◌, ◌*◌, ◌%◌, ◌≡◌, refl, List, [], ◌∷◌, ◌++◌, length, drop}
use Rattle.std.proofs.Common.{◌∙◌, ap, append_assoc, arith, drop-drop}
use Rattle.std.proofs.Math.ListN.{length-append}
use Rattle.std.proofs.lemmas.List.{length-replicate}
use Rattle.std.proofs.Math.Seq.{drop_at}
use Rattle.prelude.proofs.Laws.Bytes.{length-le16}
use Rattle.calendar.specs.File.{Appointment, Day, zeros, units, filled, appointment_bytes, appointments_bytes, block_bytes, blocks, alarms, descriptor_bytes, table, head_bytes, first_unit, file_of}
use Rattle.calendar.specs.declared.types.CalendarSettings.{CalendarSettings}

pub length-zeros : (n : ℕ) → length (zeros n) ≡ n
length-zeros n = length-replicate n 0

pub length-filled : (xs : List ℕ) → length (filled xs) ≡ 64 * units (length xs)
unfolding filled
length-filled xs = simp (length-append, length-zeros) (omega arith)

-- a filled piece is the piece, then zeros
pub filled_piece : (xs post : List ℕ) → filled xs ++ post ≡ xs ++ (zeros (64 * units (length xs) - length xs) ++ post)
unfolding filled
filled_piece xs post = append_assoc xs _ post

-- appointments
pub length_appointment : (a : Appointment) → length (appointment_bytes a) ≡ 5 + length a.text
unfolding appointment_bytes
length_appointment a = simp (length-append, length-le16) (omega arith)

pub appointments_nil : appointments_bytes [] ≡ []
unfolding appointments_bytes
appointments_nil = refl

pub appointments_cons : (a : Appointment) (al : List Appointment) → appointments_bytes (a ∷ al) ≡ appointment_bytes a ++ appointments_bytes al
unfolding appointments_bytes
appointments_cons a al = refl

pub alarms_nil : alarms [] ≡ 0
unfolding alarms
alarms_nil = refl

pub alarms_cons : (a : Appointment) (al : List Appointment) → alarms (a ∷ al) ≡ a.flags % 2 + alarms al
unfolding alarms
alarms_cons a al = refl

-- blocks
pub length_block : (d : Day) → length (block_bytes d) ≡ 10 + length (appointments_bytes d.appointments)
unfolding block_bytes
length_block d = simp (length-append, length-le16) (omega arith)

pub blocks_nil : blocks [] ≡ []
unfolding blocks
blocks_nil = refl

pub blocks_cons : (d : Day) (ds : List Day) → blocks (d ∷ ds) ≡ filled (block_bytes d) ++ blocks ds
unfolding blocks
blocks_cons d ds = refl

pub length-blocks : (d : Day) (ds : List Day) → length (blocks (d ∷ ds)) ≡ 64 * units (length (block_bytes d)) + length (blocks ds)
length-blocks d ds = rw (blocks_cons d ds, length-append, length-filled (block_bytes d))

-- descriptors
pub length_descriptor : (u : ℕ) (d : Day) → length (descriptor_bytes u d) ≡ 12
unfolding descriptor_bytes
length_descriptor u d = simp (length-append, length-le16)

pub table_nil : (u : ℕ) → table u [] ≡ []
unfolding table
table_nil u = refl

pub table_cons : (u : ℕ) (d : Day) (ds : List Day) → table u (d ∷ ds) ≡ descriptor_bytes u d ++ table (u + units (length (block_bytes d))) ds
unfolding table
table_cons u d ds = refl

pub length-table : (u : ℕ) (ds : List Day) → length (table u ds) ≡ 12 * length ds
length-table u [] = rw (table_nil u)
length-table u (d ∷ ds) =
    let e = length-table (u + units (length (block_bytes d))) ds in
    rw (table_cons u d ds, length-append, length_descriptor u d) (omega arith)

-- the file
pub length_head : (s : CalendarSettings) (n : ℕ) → length (head_bytes s n) ≡ 64
unfolding head_bytes
length_head s n = simp (length-append, length-le16, length-zeros)

module _ (s : CalendarSettings) (ds : List Day) where
  pub file-table : drop 64 (file_of s ds) ≡ filled (table (first_unit (length ds)) ds) ++ blocks ds
  unfolding file_of
  file-table = drop_at (head_bytes s (length ds)) _ 64 (length_head s (length ds))

  filled-table : length (filled (table (first_unit (length ds)) ds)) ≡ 64 * units (12 * length ds)
  filled-table = length-filled (table (first_unit (length ds)) ds) ∙ ap (λ (n : ℕ). 64 * units n) (length-table (first_unit (length ds)) ds)

  pub file-blocks : drop (64 * first_unit (length ds)) (file_of s ds) ≡ blocks ds
  file-blocks =
      let e : 64 * first_unit (length ds) ≡ 64 + 64 * units (12 * length ds) = omega arith in
      rw (e, ← drop-drop (64 * units (12 * length ds)) 64 (file_of s ds), file-table)
      (drop_at (filled (table (first_unit (length ds)) ds)) (blocks ds) _ filled-table)

  pub length-file : length (file_of s ds) ≡ 64 * first_unit (length ds) + length (blocks ds)
  unfolding file_of
  length-file =
      rw (length-append, length_head s (length ds), length-append, filled-table) (omega arith)
