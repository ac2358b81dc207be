-- Laws of what the calls on an accepted file give: they are the lists that the file shows.
-- Assumes nothing.
use Rattle.std.specs.Prelude.{Result, Ok, Err, ℕ, ◌<◌, ◌≡◌, List, length, get_or}
use Rattle.std.proofs.Math.Path.{refl}
use Rattle.std.proofs.Common.{sym, ◌∙◌, ap}
use Rattle.std.proofs.lemmas.List.{length-map}
use Rattle.std.proofs.Math.ListN.{get_or-map}
use Rattle.prelude.proofs.Laws.Choice.{lt_skip, lt_take}
use Rattle.prelude.specs.Bytes.{stretch_bytes}
use Rattle.prelude.specs.declared.refusals.Refusal.{Refusal}
use Rattle.days.specs.Days.{last_day}
use Rattle.calendar.specs.File.{Appointment}
use Rattle.calendar.specs.Reader.{calendar_of}
use Rattle.calendar.specs.Shown.{places_on, appointment_at, appointments_on, shown_at, count_from, count_answer, appointment_among, appointment_from, appointment_answer}
use Rattle.calendar.specs.declared.types.StoredAppointment.{StoredAppointment}
use Rattle.prelude.proofs.Laws.Results.{err_not_ok, ok_inj}

pub length-shown : (f : List ℕ) (d : ℕ) → length (appointments_on f d) ≡ length (places_on f d)
unfolding appointments_on
length-shown f d = length-map (places_on f d) (appointment_at f)

-- an appointment with its text's bytes
abbrev pub shown_as : List ℕ → StoredAppointment → Appointment
shown_as f e =
    record { minute = e.minute.0; flags = e.flags; text = stretch_bytes f e.text }

-- the number of appointments
counted : (f : List ℕ) (d : ℕ) {n : ℕ} (a : Result ℕ Refusal) → count_from f d a ≡ Ok n → n ≡ length (appointments_on f d)
unfolding count_from
counted f d (Ok m) h = sym (ok_inj (lt_skip last_day d _ _ err_not_ok h).1) ∙ sym (length-shown f d)
counted f d (Err e) h = absurd (err_not_ok h)

pub count_shown : (f : List ℕ) (d : ℕ) {n : ℕ} → count_answer f d ≡ Ok n → n ≡ length (appointments_on f d)
unfolding count_answer
count_shown f d h = counted f d (calendar_of f) h

-- the k-th appointment
pub record ShownAt (f : List ℕ) (d k : ℕ) (e : StoredAppointment) : Type 0 where
  pub there : k < length (appointments_on f d)
  pub same : get_or (appointments_on f d) k (appointment_at f 0) ≡ shown_as f e

nth : (f : List ℕ) (d k : ℕ) → get_or (appointments_on f d) k (appointment_at f 0) ≡ shown_as f (shown_at f (get_or (places_on f d) k 0))
unfolding appointments_on
nth f d k = get_or-map (appointment_at f) (places_on f d) k 0 ∙ unfold appointment_at shown_at in refl

given : (f : List ℕ) (d k : ℕ) {e : StoredAppointment} (a : Result ℕ Refusal) → appointment_from f d k a ≡ Ok e → ShownAt f d k e
unfolding appointment_from appointment_among
given f d k {e} (Ok m) h =
    let p = lt_take k (length (places_on f d)) _ _ err_not_ok (lt_skip last_day d _ _ err_not_ok h).1 in
    record { there = rw (length-shown f d) p.0; same = nth f d k ∙ ap (shown_as f) (ok_inj p.1) }
given f d k (Err r) h = absurd (err_not_ok h)

pub appointment_shown : (f : List ℕ) (d k : ℕ) {e : StoredAppointment} → appointment_answer f d k ≡ Ok e → ShownAt f d k e
unfolding appointment_answer
appointment_shown f d k h = given f d k (calendar_of f) h
