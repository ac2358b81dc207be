-- `put_appointment` meets its contract: four bytes, the text and a zero.
use Rattle.std.proofs.Common.{List, length, ℕ, ◌++◌, ◌+◌, ◌≡◌, ◌≤◌}
use Rattle.prelude.specs.Splice.{splice}
use Rattle.prelude.proofs.Laws.Grown.{Grown, grown_start, grown-space, grown-last-fits, grown-more, grown-rest-equal, grown-last}
use Rattle.calendar.specs.File.{Appointment, zeros, appointment_bytes}
use Rattle.calendar_writer.specs.Pieces.{appointment_head}
use Rattle.calendar_writer.proofs.Laws.Pieces.{appointment_pieces}
use Rattle.calendar_writer.proofs.puts.put_appointment.Goals as goal

-- before the first piece, and behind each of the first two, as `copy_in` leaves them
module _ {o : List ℕ} {at : ℕ} (a : Appointment) (room : at + length (appointment_bytes a) ≤ length o) where
  before : Grown o at (appointment_bytes a) o at (appointment_head (5 + length a.text) a.flags a.minute ++ (a.text ++ zeros 1))
  before = grown-rest-equal (appointment_pieces a) (grown_start room)

  module _ {head : List ℕ} (e : head ≡ appointment_head (5 + length a.text) a.flags a.minute) {o₁ : List ℕ} {second : ℕ} (next : second ≡ at + length head) (put : o₁ ≡ splice o at head) where
    behind-head : Grown o at (appointment_bytes a) o₁ second (a.text ++ zeros 1)
    behind-head = grown-more (appointment_head _ _ _) before (rw e at next) (rw e at put)

    behind-text : {o₂ : List ℕ} {third : ℕ} → third ≡ second + length a.text → o₂ ≡ splice o₁ second a.text → Grown o at (appointment_bytes a) o₂ third (zeros 1)
    behind-text next₂ put₂ = grown-more a.text behind-head next₂ put₂

pub copy_in-second-requires : goal.copy_in-second-requires
copy_in-second-requires c =
    let a : Appointment = record { minute = c.args.minute.0; flags = c.args.flags; text = c.args.text.now } in
    rw c.appointment_head-head.ensures (grown-space (appointment_head _ _ _) _ (before a c.requires.text_in_bounds))

pub copy_in-third-requires : goal.copy_in-third-requires
copy_in-third-requires c =
    let a : Appointment = record { minute = c.args.minute.0; flags = c.args.flags; text = c.args.text.now } in
    grown-space c.args.text.now (zeros 1) (behind-head a c.requires.text_in_bounds c.appointment_head-head.ensures c.copy_in-second.ensures.next c.copy_in-second.ensures.put)

pub put_zeros-requires : goal.put_zeros-requires
put_zeros-requires c =
    let a : Appointment = record { minute = c.args.minute.0; flags = c.args.flags; text = c.args.text.now } in
    grown-last-fits (behind-text a c.requires.text_in_bounds c.appointment_head-head.ensures c.copy_in-second.ensures.next c.copy_in-second.ensures.put c.copy_in-third.ensures.next c.copy_in-third.ensures.put)

pub returns : goal.returns
returns c =
    let a : Appointment = record { minute = c.args.minute.0; flags = c.args.flags; text = c.args.text.now } in
    let g = behind-text a c.requires.text_in_bounds c.appointment_head-head.ensures c.copy_in-second.ensures.next c.copy_in-second.ensures.put c.copy_in-third.ensures.next c.copy_in-third.ensures.put in
    let whole = grown-last (zeros 1) g c.put_zeros.ensures.next c.put_zeros.ensures.put in
    record { next = whole.0; put = whole.1 }
