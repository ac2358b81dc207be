-- The head, the appointments and the whole file by their pieces.
-- Assumes nothing.
use Rattle.std.specs.Prelude.{ℕ, ◌+◌, ◌-◌, ◌*◌, ◌≡◌, refl, List, [], ◌++◌, length}
use Rattle.std.proofs.Common.{ap, ◌∙◌, append_assoc, arith}
use Rattle.prelude.proofs.Laws.Choice.{is_eq, is_ne}
use Rattle.prelude.specs.Bytes.{le16}
use Rattle.calendar.specs.File.{Appointment, Day, zeros, units, filled, appointment_bytes, appointments_bytes, blocks, table, head_bytes, first_unit, file_of}
use Rattle.calendar.proofs.Laws.File.{length-table}
use Rattle.calendar.specs.declared.types.CalendarSettings.{CalendarSettings}
use Rattle.calendar_writer.specs.Sums.{bytes_in, units_for, block_head, row_of}
use Rattle.calendar_writer.specs.Pieces.{head_mark, settings_words, appointment_head}

pub head_pieces : (s : CalendarSettings) (n : ℕ) → head_bytes s n ≡ head_mark n ++ (settings_words s ++ zeros 42)
unfolding head_bytes head_mark settings_words le16
head_pieces s n = refl

pub appointment_pieces : (a : Appointment) → appointment_bytes a ≡ appointment_head (5 + length a.text) a.flags a.minute ++ (a.text ++ zeros 1)
unfolding appointment_bytes appointment_head le16
appointment_pieces a = refl

-- a block without appointments
bytes_none : appointments_bytes [] ≡ []
unfolding appointments_bytes
bytes_none = refl

pub blank_none : (d : ℕ) {s : ℕ} (al : List Appointment) → s ≡ 0 → row_of d s al ≡ []
unfolding row_of
blank_none d al e = is_eq e _ _

pub blank_some : (d : ℕ) {s : ℕ} → (s ≡ 0 → ⊥) → row_of d s [] ≡ block_head d (bytes_in s) ++ zeros (64 * units_for s - 10)
unfolding row_of
blank_some d {s} n = is_ne n _ _ ∙ let e : 64 * units_for s - 10 - 0 ≡ 64 * units_for s - 10 = omega arith in rw (bytes_none, e)

-- the file
pub file_pieces : (s : CalendarSettings) (ds : List Day) → file_of s ds ≡ head_bytes s (length ds) ++ (table (first_unit (length ds)) ds ++ (zeros (64 * units (12 * length ds) - 12 * length ds) ++ blocks ds))
unfolding file_of filled
file_pieces s ds =
    let t = table (first_unit (length ds)) ds in
    let e : length t ≡ 12 * length ds = length-table (first_unit (length ds)) ds in
    ap (λ (l : List ℕ). head_bytes s (length ds) ++ l) (append_assoc t _ (blocks ds)) ∙ rw e
