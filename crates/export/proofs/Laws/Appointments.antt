-- Laws of a day's appointments: how many bytes they take, that the reader takes them as they are, and their alarm marks.
-- Assumes nothing.
use Rattle.std.specs.Prelude.{ℕ, ◌+◌, ◌%◌, ◌≤◌, ◌≡◌, Bool, true, false, eqb, length}
use Rattle.std.proofs.Math.Path.{refl}
use Rattle.std.proofs.Common.{ap, ◌∙◌, arith, length-append}
use mathlib.Core.List.Memᴰ
use mathlib.Core.List.{List, [], ◌∷◌, Memᴰ}
use Rattle.std.proofs.Math.ListN.{length-map}
use Rattle.prelude.specs.Bytes.{bit}
use Rattle.prelude.proofs.Laws.Bytes.{bit_most}
use Rattle.prelude.specs.Choice.{if_b}
use Rattle.prelude.proofs.Laws.Choice.{eq_elim}
use Rattle.sorting.specs.Keep.{keep}
use Rattle.sorting.proofs.Laws.Keep.{keep-member}
use Rattle.sorting.specs.Order.{Sorted}
use Rattle.sorting.proofs.Laws.Order.{sorted_sort, sort-member, member-at-least, map-sort}
use Rattle.sorting.specs.Totals.{total}
use Rattle.sorting.proofs.Laws.Totals.{total-sort, total-keep, total-map, total_cong}
use Rattle.pages.specs.Pages.{Numbered, numbered, record_times, start_of, page_of}
use Rattle.pages.proofs.Laws.Pages.{length_page}
use Rattle.calendar.specs.File.{Appointment, appointments_bytes, alarms}
use Rattle.calendar.proofs.Laws.File.{length_appointment}
use Rattle.calendar_writer.proofs.Laws.ListRead.{GoodAppointment}
use Rattle.calendar_writer.proofs.Laws.Spans.{GoodSize}
use Rattle.export.specs.Export.{special_time, appointment_of, appointments_for}
use Rattle.export.specs.Invariants.{GoodRecord, size_of, GoodBook}

-- the bytes of an appointment
abbrev pub bytes_of : Appointment → ℕ
bytes_of a = 5 + length a.text

pub length_appointments : (al : List Appointment) → length (appointments_bytes al) ≡ total bytes_of al
unfolding appointments_bytes total
length_appointments [] = refl
length_appointments (a ∷ al) = simp (length-append, length_appointment, length_appointments al)

-- a special time is 0 or 2
pub special_most : (i m : ℕ) → special_time i m ≤ 2
unfolding special_time
special_most i m = eq_elim (λ (s : ℕ). s ≤ 2) (m % i) 0 0 2 (λ _. omega arith) (λ _. omega arith)

-- flag 1 is the alarm mark
pub flag_bit : (b : Bool) (i m : ℕ) → (bit b + special_time i m) % 2 ≡ bit b
unfolding special_time
flag_bit b i m = let h = bit_most b in eq_elim (λ (s : ℕ). (bit b + s) % 2 ≡ bit b) (m % i) 0 0 2 (λ _. omega arith) (λ _. omega arith)

bit_back : (b : Bool) → eqb (bit b) 1 ≡ b
unfolding bit if_b
bit_back true = refl
bit_back false = refl

pub flag_alarm : (b : Bool) (i m : ℕ) → eqb ((bit b + special_time i m) % 2) 1 ≡ b
flag_alarm b i m = rw (flag_bit b i m) (bit_back b)

alarms-total : (al : List Appointment) → alarms al ≡ total (λ (a : Appointment). a.flags % 2) al
unfolding alarms total
alarms-total [] = refl
alarms-total (a ∷ al) = ap (λ (n : ℕ). a.flags % 2 + n) (alarms-total al)

-- A day's number of appointments, their bytes and their alarms, from the records that show, in any order.
module _ (shows : ℕ → Numbered → Bool) (f : List ℕ) (interval d : ℕ) where
  pub length-for : length (appointments_for shows f interval d) ≡ length (keep (shows d) (numbered f))
  unfolding appointments_for
  length-for = length-map (page_of (shows d) f) (appointment_of f interval) ∙ length_page (shows d) f

  by-records : (w : Appointment → ℕ) (v : Numbered → ℕ) → ((x : Numbered) → w (appointment_of f interval x) ≡ v x) → total w (appointments_for shows f interval d) ≡ total v (keep (shows d) (numbered f))
  unfolding appointments_for page_of
  by-records w v e =
      total-map w (appointment_of f interval) (page_of (shows d) f) ∙ total_cong (λ x. w (appointment_of f interval x)) v e (page_of (shows d) f) ∙ total-sort v start_of (keep (shows d) (numbered f))

  pub bytes-for : length (appointments_bytes (appointments_for shows f interval d)) ≡ total (size_of f) (keep (shows d) (numbered f))
  unfolding appointment_of
  bytes-for = length_appointments (appointments_for shows f interval d) ∙ by-records bytes_of (size_of f) (λ x. refl)

  pub alarms-for : alarms (appointments_for shows f interval d) ≡ total (λ x. bit (record_times x).alarm) (keep (shows d) (numbered f))
  unfolding appointment_of
  alarms-for = alarms-total (appointments_for shows f interval d) ∙ by-records (λ a. a.flags % 2) (λ x. bit (record_times x).alarm) (λ x. flag_bit (record_times x).alarm interval (start_of x))

module _ (f : List ℕ) (interval : ℕ) where
  good-appointment : (x : Numbered) → GoodRecord f x → GoodAppointment (appointment_of f interval x)
  unfolding appointment_of
  good-appointment x g =
      record {
        clean = g.clean;
        flags = omega (arith, bit_most (record_times x).alarm, special_most interval (start_of x));
        minute = g.minute;
      }

  minute-start : (x : Numbered) → (appointment_of f interval x).minute ≡ start_of x
  unfolding appointment_of
  minute-start x = refl

  module _ (b : GoodBook f) (shows : ℕ → Numbered → Bool) (d : ℕ) where
    abbrev al : List Appointment
    al = appointments_for shows f interval d

    on-page : (x : Numbered) → Memᴰ x (page_of (shows d) f) → GoodRecord f x
    unfolding page_of
    on-page x m = b.each x (keep-member (shows d) (sort-member start_of m)).0

    each-good : (a : Appointment) → Memᴰ a al → GoodAppointment a
    unfolding appointments_for
    each-good a m =
        let p = Memᴰ.of_map (appointment_of f interval) (page_of (shows d) f) m in
        rw p.2 at (good-appointment p.0 (on-page p.0 p.1))

    in_order : Sorted (λ (a : Appointment). a.minute) al
    unfolding appointments_for page_of
    in_order = rw (map-sort start_of (λ (a : Appointment). a.minute) (appointment_of f interval) minute-start (keep (shows d) (numbered f))) (sorted_sort (λ (a : Appointment). a.minute) _)

    pub good-size : GoodSize al
    good-size =
        record {
          list = record { each = each-good; least = member-at-least (λ (a : Appointment). a.minute) al (λ _ _. omega arith); rising = in_order };
          size = omega (arith, bytes-for shows f interval d, total-keep (size_of f) (shows d) (numbered f), b.sum);
        }
