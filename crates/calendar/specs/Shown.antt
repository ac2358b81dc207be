-- What an accepted Calendar file shows, document 01: "the number of days, the day and block offset (as stored) at a place, and a day's appointments (minute, flags, text)".
-- Assumes nothing.
use Rattle.std.specs.Prelude.{Result, Ok, Err, ℕ, zero, suc, ◌+◌, ◌-◌, ◌*◌, List, [], map, length, get_or}
use Rattle.prelude.specs.Choice.{if_lt, if_eq}
use Rattle.prelude.specs.Bytes.{stretch_bytes}
use Rattle.prelude.specs.Refusals.{no_such_number, out_of_range, refusal}
use Rattle.prelude.specs.declared.slices.Stretch.{Stretch}
use Rattle.days.specs.Days.{last_day}
use Rattle.calendar.specs.File.{Appointment}
use Rattle.calendar.specs.Lists.{size_at, flags_at, minute_at, places_in_list}
use Rattle.calendar.specs.Reader.{count_of, day_at, offset_at, list_of, calendar_of}
use Rattle.calendar.specs.declared.types.Descriptor.{Descriptor}
use Rattle.calendar.specs.declared.types.StoredAppointment.{StoredAppointment}
use Rattle.prelude.specs.declared.refusals.Refusal.{Refusal}

-- the places of a day's appointments, among k descriptors from place p on: "a day with no descriptor shows nothing"
unfoldable pub places_from : ℕ → List ℕ → ℕ → ℕ → List ℕ
places_from zero f p d = []
places_from (suc k) f p d = if_eq (day_at f p) d (places_in_list (list_of f p)) (places_from k f (p + 12) d)

unfoldable pub places_on : List ℕ → ℕ → List ℕ
places_on f d = places_from (count_of f) f 64 d

-- the appointment at a place: "minute, flags, text", where the text stands before the zero that ends it
abbrev pub text_at : List ℕ → ℕ → Stretch
text_at f at = record { place = at + 4; length = size_at f at - 5 }

unfoldable pub appointment_at : List ℕ → ℕ → Appointment
appointment_at f at =
    record { minute = minute_at f at; flags = flags_at f at; text = stretch_bytes f (text_at f at) }

-- "a day's appointments (minute, flags, text)"
unfoldable pub appointments_on : List ℕ → ℕ → List Appointment
appointments_on f d = map (appointment_at f) (places_on f d)

-- the same appointment with the stretch of its text
unfoldable pub shown_at : List ℕ → ℕ → StoredAppointment
shown_at f at =
    record {
      minute = record { 0 = minute_at f at };
      flags = flags_at f at;
      text = text_at f at;
    }

-- the descriptor at a place: "day and block offset (as stored)"
unfoldable pub descriptor_at : List ℕ → ℕ → Descriptor
descriptor_at f p = record { day = record { 0 = day_at f p }; offset = offset_at f p }

-- the k-th descriptor: the file's own refusal, then 10
unfoldable pub descriptor_from : List ℕ → ℕ → Result ℕ Refusal → Result Descriptor Refusal
descriptor_from f k (Ok n) =
    if_lt k n (Ok (descriptor_at f (64 + 12 * k))) (Err (refusal no_such_number))
descriptor_from f k (Err e) = Err e

unfoldable pub descriptor_answer : List ℕ → ℕ → Result Descriptor Refusal
descriptor_answer f k = descriptor_from f k (calendar_of f)

-- how many appointments a day has: the file's own refusal, then 11
unfoldable pub count_from : List ℕ → ℕ → Result ℕ Refusal → Result ℕ Refusal
count_from f d (Ok n) =
    if_lt last_day d (Err (refusal out_of_range)) (Ok (length (places_on f d)))
count_from f d (Err e) = Err e

unfoldable pub count_answer : List ℕ → ℕ → Result ℕ Refusal
count_answer f d = count_from f d (calendar_of f)

-- the k-th appointment of a day: the file's own refusal, then 11, then 10
unfoldable pub appointment_among : List ℕ → ℕ → List ℕ → Result StoredAppointment Refusal
appointment_among f k places =
    if_lt k (length places) (Ok (shown_at f (get_or places k 0))) (Err (refusal no_such_number))

unfoldable pub appointment_from : List ℕ → ℕ → ℕ → Result ℕ Refusal → Result StoredAppointment Refusal
appointment_from f d k (Ok n) =
    if_lt last_day d (Err (refusal out_of_range)) (appointment_among f k (places_on f d))
appointment_from f d k (Err e) = Err e

unfoldable pub appointment_answer : List ℕ → ℕ → ℕ → Result StoredAppointment Refusal
appointment_answer f d k = appointment_from f d k (calendar_of f)

-- its text as a stretch of the file; nothing where there is no such appointment
unfoldable pub appointment_text_in : List ℕ → Result StoredAppointment Refusal → List ℕ
appointment_text_in f (Ok e) = stretch_bytes f e.text
appointment_text_in f (Err r) = []
