-- A day's appointments as they are written are read back, one by one, each with its minute, flags and text.
-- Assumes nothing.
use Rattle.std.specs.Prelude.{Ok, ℕ, suc, ◌+◌, ◌-◌, ◌≤◌, ◌≡◌, refl, true, length}
use Rattle.std.proofs.Common.{sym, ap, ◌∙◌, arith, length-append}
use Rattle.std.proofs.lemmas.Bool.{false≢true}
use mathlib.Core.List.{List, [], ◌∷◌, ◌++◌, map, append_assoc, Memᴰ}
use Rattle.prelude.proofs.Laws.Choice.{eq_skip}
use Rattle.prelude.specs.Bytes.{le16}
use Rattle.sorting.specs.Order.{AtLeast, Sorted}
use Rattle.days.specs.Days.{last_minute}
use Rattle.texts.specs.Notes.{no_zero}
use Rattle.calendar.specs.File.{Appointment, appointment_bytes, appointments_bytes}
use Rattle.calendar.specs.Lists.{size_at, flags_at, minute_at, next_at, first_zero, list_walk_from, places_in_list, verdict_in}
use Rattle.calendar.specs.Shown.{appointment_at}
use Rattle.calendar.proofs.Laws.Lists.{zero_here, zero-later, AppointmentAt, facts-appointment-ok, walk_end, walk_more, places_more, places_end, verdict_more, verdict_end}
use Rattle.calendar.proofs.Laws.File.{length_appointment}
use Rattle.calendar_writer.proofs.Laws.From.{From, from-recast, from-place-equal, from-skip, part-here, byte-here, word-here}

-- an appointment that the reader takes as it is
pub record GoodAppointment (a : Appointment) : Type 0 where
  pub clean : no_zero a.text ≡ true
  pub flags : a.flags ≤ 3
  pub minute : a.minute ≤ last_minute

-- appointments in order, none before the minute low
pub record GoodList (low : ℕ) (al : List Appointment) : Type 0 where
  pub each : (a : Appointment) → Memᴰ a al → GoodAppointment a
  pub least : AtLeast (λ (a : Appointment). a.minute) low al
  pub rising : Sorted (λ (a : Appointment). a.minute) al

clean_head : (x : ℕ) (xs : List ℕ) → no_zero (x ∷ xs) ≡ true → (x ≡ 0 → ⊥) × (no_zero xs ≡ true)
unfolding no_zero
clean_head x xs h = eq_skip x 0 _ _ false≢true h

-- the zero behind a text is the first
text_ends_lem : {f : List ℕ} {p : ℕ} (t post : List ℕ) → no_zero t ≡ true → From f p (t ++ (0 ∷ post)) → first_zero (suc (length t)) f p ≡ p + length t
text_ends_lem {f} {p} [] post c h = zero_here 0 f p (byte-here h).0 ∙ omega arith
text_ends_lem {f} {p} (x ∷ xs) post c h =
    let b = byte-here h in
    let n = clean_head x xs c in
    zero-later (suc (length xs)) f p (λ e. n.0 (sym b.0 ∙ e)) ∙ text_ends_lem {p = p + 1} xs post n.1 b.1 ∙ omega arith

-- what is read of an appointment that is written at a place
record Read (f : List ℕ) (at : ℕ) (a : Appointment) (post : List ℕ) : Type 0 where
  size : size_at f at ≡ 5 + length a.text
  flags : flags_at f at ≡ a.flags
  minute : minute_at f at ≡ a.minute
  text : From f (at + 4) (a.text ++ (0 ∷ post))
  next : From f (next_at f at) post

nested : (w t post : List ℕ) → (w ++ (t ++ (0 ∷ []))) ++ post ≡ w ++ (t ++ (0 ∷ post))
nested w t post = simp append_assoc

read : {f : List ℕ} {at : ℕ} (a : Appointment) (post : List ℕ) → GoodAppointment a → From f at (appointment_bytes a ++ post) → Read f at a post
unfolding appointment_bytes
read {f} {at} a post g h =
    let b1 = byte-here h in
    let b2 = byte-here b1.1 in
    let m : From f (at + 2) (le16 a.minute ++ (a.text ++ (0 ∷ post))) = from-recast (from-place-equal b2.1 (omega arith)) (nested (le16 a.minute) a.text post) in
    let w = word-here a.minute (omega arith) m in
    let t : From f (at + 4) (a.text ++ (0 ∷ post)) = from-place-equal w.1 (omega arith) in
    let z = from-skip a.text t in
    record {
      size = b1.0;
      flags = b2.0;
      minute = w.0;
      text = t;
      next = from-place-equal (byte-here z).1 (omega (arith, b1.0));
    }

-- it is an appointment for the reader, in a list that ends at e
ok : {f : List ℕ} {at : ℕ} (e low : ℕ) (a : Appointment) (post : List ℕ) → GoodAppointment a → Read f at a post → low ≤ a.minute → at + (5 + length a.text) ≤ e → AppointmentAt f e low at
ok {f} {at} e low a post g r l i =
    let k : size_at f at - 4 ≡ suc (length a.text) = omega (arith, r.size) in
    let z = text_ends_lem a.text post g.clean r.text in
    record {
      size = omega (arith, r.size);
      inside = omega (arith, r.size);
      flags = rw r.flags g.flags;
      minute = rw r.minute g.minute;
      rises = rw r.minute l;
      ends = rw (k, z) (omega (arith, r.size));
    }

-- and it is read as it was
same : {f : List ℕ} {at : ℕ} (a : Appointment) (post : List ℕ) → Read f at a post → appointment_at f at ≡ a
unfolding appointment_at
same {f} {at} a post r =
    let k : size_at f at - 5 ≡ length a.text = omega (arith, r.size) in
    rw (r.minute, r.flags, k, part-here a.text (0 ∷ post) r.text)

-- a list is read without refusal, and shows what was written
pub record ListRead (f : List ℕ) (e low at : ℕ) (al : List Appointment) : Type 0 where
  pub fine : verdict_in (list_walk_from f e low at) ≡ Ok tt
  pub shown : map (appointment_at f) (places_in_list (list_walk_from f e low at)) ≡ al

pub list_read : {f : List ℕ} (e low at : ℕ) (al : List Appointment) (post : List ℕ) → GoodList low al → From f at (appointments_bytes al ++ post) → e ≡ at + length (appointments_bytes al) → ListRead f e low at al
unfolding appointments_bytes
list_read {f} e low at [] post g h q =
    let w = walk_end f e low at (omega arith) in
    record { fine = ap verdict_in w ∙ verdict_end; shown = ap (λ x. map (appointment_at f) (places_in_list x)) w ∙ ap (map (appointment_at f)) places_end }
list_read {f} e low at (a ∷ al) post g h q =
    let ga : GoodAppointment a = g.each a (Memᴰ.head refl) in
    let r : Read f at a (appointments_bytes al ++ post) = read a (appointments_bytes al ++ post) ga (from-recast h (append_assoc (appointment_bytes a) (appointments_bytes al) post)) in
    let n = length-append (appointment_bytes a) (appointments_bytes al) in
    let m = length_appointment a in
    let o : AppointmentAt f e low at = ok e low a (appointments_bytes al ++ post) ga r g.least.0 (omega arith) in
    let next : GoodList (minute_at f at) al = record { each = λ b i. g.each b (Memᴰ.tail i); least = rw r.minute g.rising.0; rising = g.rising.1 } in
    let i : ListRead f e (minute_at f at) (next_at f at) al = list_read e (minute_at f at) (next_at f at) al post next r.next (omega (arith, r.size)) in
    let w = walk_more f e low at (omega arith) (facts-appointment-ok f e low at o) in
    record {
      fine = ap verdict_in w ∙ verdict_more at _ ∙ i.fine;
      shown = ap (λ x. map (appointment_at f) (places_in_list x)) w ∙ ap (map (appointment_at f)) (places_more at _) ∙ rw (same a (appointments_bytes al ++ post) r, i.shown);
    }
