-- An appointment put at its days' places: the blocks grow by it on each day that passes.
-- Assumes nothing.
use Rattle.std.specs.Prelude.{ℕ, zero, suc, ◌+◌, ◌*◌, ◌<◌, ◌≤◌, ◌≡◌, refl, Bool, true, false, List, [], ◌∷◌, ◌++◌, length, get_or}
use Rattle.std.proofs.Common.{sym, ap, ◌∙◌, arith, zero-add}
use Rattle.prelude.specs.Choice.{if_lt, if_eq, if_b}
use Rattle.prelude.proofs.Laws.Choice.{is_lt, is_ge, is_eq, is_ne, is_true, is_false, bool_cases, lt_elim, eq_elim}
use Rattle.prelude.specs.Splice.{splice}
use Rattle.prelude.proofs.Laws.Splice.{length-splice, take-splice-before, drop-splice}
use Rattle.calendar.specs.File.{Appointment, appointment_bytes, appointments_bytes}
use Rattle.calendar.proofs.Laws.File.{length_appointment}
use Rattle.calendar_writer.specs.Sums.{bytes_in, rows, units_to, none_yet}
use Rattle.calendar_writer.specs.Scatter.{Added, scatter, place_of, FilledBlocks}
use Rattle.calendar_writer.proofs.Laws.Scatter.{scatter-end, scatter-no, scatter-yes}
use Rattle.calendar_writer.proofs.Laws.Spots.{Spot, splice_text, spot_put}
use Rattle.calendar_writer.proofs.Laws.Rows.{length_more, Fits, rows_same, units_room, length-rows, rows-spot}

module _ (o : List ℕ) (at d : ℕ) (ss : List ℕ) (p : ℕ → Bool) (a : Appointment) (places : List ℕ) (inside : at ≤ length o) where
  abbrev piece : List ℕ
  piece = appointment_bytes a

  some : 0 < length piece
  some = omega (arith, length_appointment a)

  -- the days from k on are still to get the piece
  record Standing (so : ℕ → List Appointment) (k : ℕ) (out : List ℕ) : Type 0 where
    stands : out ≡ splice o at (rows so d 0 ss)
    fits : Fits so 0 ss
    room : (i : ℕ) → k ≤ i → i < length ss → p i ≡ true → length (appointments_bytes (so i)) + length piece ≤ bytes_in (get_or ss i 0)
    place : (i : ℕ) → k ≤ i → i < length ss → get_or places i 0 ≡ at + place_of ss so i

  abbrev grown : (ℕ → List Appointment) → ℕ → ℕ → List Appointment
  grown so k i = if_lt i k (so i) (if_b (p i) (so i ++ (a ∷ [])) (so i))

  -- one day
  abbrev put : (ℕ → List Appointment) → ℕ → ℕ → List Appointment
  put so k i = if_eq i k (so i ++ (a ∷ [])) (so i)

  put_other : (so : ℕ → List Appointment) (k i : ℕ) → (i ≡ k → ⊥) → put so k i ≡ so i
  put_other so k i n = is_ne n _ _

  put_one : (so : ℕ → List Appointment) (k : ℕ) → put so k k ≡ so k ++ (a ∷ [])
  put_one so k = is_eq refl _ _

  put-fits : (so : ℕ → List Appointment) (k : ℕ) → Fits so 0 ss → length (appointments_bytes (so k)) + length piece ≤ bytes_in (get_or ss k 0) → Fits (put so k) 0 ss
  put-fits so k f r =
      record {
        each =
            λ i l.
            let e : 0 + i ≡ i = zero-add i in
            rw e (eq_elim (λ z. length (appointments_bytes z) ≤ bytes_in (get_or ss i 0)) i k _ _ (λ q. rw q (omega (arith, length_more (so k) a, r))) (λ n. rw e at (f.each i l)));
      }

  put-stands : {so : ℕ → List Appointment} {k : ℕ} {out : List ℕ} → Standing so k out → k < length ss → p k ≡ true → Standing (put so k) (suc k) (splice out (get_or places k 0) piece)
  put-stands {so} {k} {out} s l h =
      let r = s.room k (omega arith) l h in
      let spot : Spot (rows so d 0 ss) (rows (put so k) d 0 ss) (place_of ss so k) piece = rows-spot so (put so k) a k (put_one so k) (put_other so k) some d 0 k ss (sym (zero-add k)) l s.fits r in
      record {
        stands = rw (s.place k (omega arith) l) (spot_put o at spot inside s.stands);
        fits = put-fits so k s.fits r;
        room = λ i g m t. rw (put_other so k i (λ e. omega arith)) (s.room i (omega arith) m t);
        place = λ i g m. rw (put_other so k i (λ e. omega arith)) (s.place i (omega arith) m);
      }

  leave-stands : {so : ℕ → List Appointment} {k : ℕ} {out : List ℕ} → Standing so k out → Standing so (suc k) out
  leave-stands s = record { stands = s.stands; fits = s.fits; room = λ i g m. s.room i (omega arith) m; place = λ i g m. s.place i (omega arith) m }

  -- what all of them come to
  put-grown : (so : ℕ → List Appointment) (k i : ℕ) → p k ≡ true → grown (put so k) (suc k) i ≡ grown so k i
  put-grown so k i h =
      lt_elim {X = Unit {0}} (λ _. grown (put so k) (suc k) i ≡ grown so k i) i k tt tt
      (λ l. is_lt (omega arith) _ _ ∙ put_other so k i (λ e. omega arith) ∙ sym (is_lt l _ _))
      (λ g. lt_elim {X = Unit {0}} (λ _. grown (put so k) (suc k) i ≡ grown so k i) k i tt tt
      (λ l. is_ge (omega arith) _ _ ∙ ap (λ (z : List Appointment). if_b (p i) (z ++ (a ∷ [])) z) (put_other so k i (λ e. omega arith)) ∙ sym (is_ge g _ _))
      (λ l. let e : i ≡ k = omega arith in is_lt (omega arith) _ _ ∙ is_eq e _ _ ∙ sym (is_ge g _ _ ∙ is_true (ap p e ∙ h) _ _)))

  leave-grown : (so : ℕ → List Appointment) (k i : ℕ) → p k ≡ false → grown so (suc k) i ≡ grown so k i
  leave-grown so k i h =
      lt_elim {X = Unit {0}} (λ _. grown so (suc k) i ≡ grown so k i) i k tt tt
      (λ l. is_lt (omega arith) _ _ ∙ sym (is_lt l _ _))
      (λ g. lt_elim {X = Unit {0}} (λ _. grown so (suc k) i ≡ grown so k i) k i tt tt
      (λ l. is_ge (omega arith) _ _ ∙ sym (is_ge g _ _))
      (λ l. let e : i ≡ k = omega arith in is_lt (omega arith) _ _ ∙ sym (is_ge g _ _ ∙ is_false (ap p e ∙ h) _ _)))

  scatter-rows : (m k : ℕ) (so : ℕ → List Appointment) (out : List ℕ) → k + m ≡ length ss → Standing so k out → scatter m p piece places k out ≡ splice o at (rows (grown so k) d 0 ss)
  scatter-rows zero k so out e s =
      scatter-end p piece places k out ∙ s.stands ∙ ap (splice o at) (rows_same so (grown so k) d 0 ss (λ i l. rw (zero-add i) (sym (is_lt (omega arith) _ _))))
  scatter-rows (suc m) k so out e s =
      bool_cases (p k)
      (λ h. scatter-yes p piece places m k out h ∙ scatter-rows m (suc k) (put so k) _ (omega arith) (put-stands s (omega arith) h) ∙ ap (splice o at) (rows_same _ _ d 0 ss (λ i l. put-grown so k (0 + i) h)))
      (λ h. scatter-no p piece places m k out h ∙ scatter-rows m (suc k) so out (omega arith) (leave-stands s) ∙ ap (splice o at) (rows_same _ _ d 0 ss (λ i l. leave-grown so k (0 + i) h)))

module _ {o : List ℕ} {at d : ℕ} {ss : List ℕ} {so : ℕ → List Appointment} {places out : List ℕ} (inside : at + 64 * units_to (length ss) ss ≤ length o) (f : FilledBlocks o at d ss so places out) where
  -- one appointment more on each day that passes
  pub filled-append-appointment :
      (p : ℕ → Bool) (a : Appointment) (more : ℕ → List Appointment) {places' : List ℕ} → Fits so 0 ss → Fits more 0 ss
      → ((i : ℕ) → i < length ss → more i ≡ if_b (p i) (so i ++ (a ∷ [])) (so i))
      → Added p (length (appointment_bytes a)) (length ss) places places'
      → FilledBlocks o at d ss more places' (scatter (length ss) p (appointment_bytes a) places 0 out)
  filled-append-appointment p a more {places'} old new e moved =
      let room : (i : ℕ) → 0 ≤ i → i < length ss → p i ≡ true → length (appointments_bytes (so i)) + length (appointment_bytes a) ≤ bytes_in (get_or ss i 0) =
      λ i z l t. let q : more i ≡ so i ++ (a ∷ []) = e i l ∙ is_true t _ _ in omega (arith, length_more (so i) a, ap (λ (z : List Appointment). length (appointments_bytes z)) q, let w = new.each i l in rw (zero-add i) at w) in
      record {
        stands =
            scatter-rows o at d ss p a places (omega arith) (length ss) 0 so out (zero-add (length ss)) (record { stands = f.stands; fits = old; room = room; place = λ i z l. f.place i l })
            ∙ ap (splice o at) (rows_same _ more d 0 ss (λ i l. rw (zero-add i) (is_ge (omega arith) _ _ ∙ sym (e i l))));
        place =
            λ i l. moved.behind i l
            ∙ bool_cases (p i)
            (λ t. omega (arith, f.place i l, length_more (so i) a, is_true t (length (appointment_bytes a)) 0, ap (λ (z : List Appointment). length (appointments_bytes z)) (e i l ∙ is_true t _ _)))
            (λ t. omega (arith, f.place i l, is_false t (length (appointment_bytes a)) 0, ap (λ (z : List Appointment). length (appointments_bytes z)) (e i l ∙ is_false t _ _)));
      }

  -- the buffer is as long as before
  pub filled-long : Fits so 0 ss → length out ≡ length o
  filled-long fit = ap length f.stands ∙ length-splice o at (rows so d 0 ss) (rw (length-rows so d 0 ss fit) inside)

  -- and has the room
  pub fill-room : {i : ℕ} (n : ℕ) → Fits so 0 ss → i < length ss → 0 < n → length (appointments_bytes (so i)) + n ≤ bytes_in (get_or ss i 0) → get_or places i 0 + n ≤ length out
  fill-room {i} n fit l some h =
      omega (arith, filled-long fit, f.place i l, units_room i ss l (λ z. omega arith), inside)

-- before the first appointment
pub place_none : (ss : List ℕ) (i : ℕ) → place_of ss none_yet i ≡ 64 * units_to i ss + 10
unfolding appointments_bytes
place_none ss i = refl

-- what goes by the days below their end
pub filled-same : {o : List ℕ} {at d : ℕ} {ss : List ℕ} {so : ℕ → List Appointment} {places out : List ℕ} (so' : ℕ → List Appointment) → ((i : ℕ) → i < length ss → so i ≡ so' i) → FilledBlocks o at d ss so places out → FilledBlocks o at d ss so' places out
filled-same {o} {at} {d} {ss} {so} so' e f =
    record {
      stands = f.stands ∙ ap (splice o at) (rows_same so so' d 0 ss (λ i l. rw (zero-add i) (e i l)));
      place = λ i l. f.place i l ∙ ap (λ (al : List Appointment). at + (64 * units_to i ss + (10 + length (appointments_bytes al)))) (e i l);
    }

-- a write over a write of the same length
splice_over : (d : List ℕ) (at : ℕ) (xs ys : List ℕ) → at ≤ length d → length xs ≡ length ys → splice (splice d at xs) at ys ≡ splice d at ys
splice_over d at xs ys h e =
    splice_text (splice d at xs) at ys
    ∙ rw (take-splice-before d at xs at (omega arith) h, ← e, drop-splice d at xs h, e) (sym (splice_text d at ys))

-- the same, told of the buffer itself
pub filled_self : {o : List ℕ} {at d : ℕ} {ss : List ℕ} {so : ℕ → List Appointment} {places out : List ℕ} → at ≤ length o → FilledBlocks o at d ss so places out → FilledBlocks out at d ss so places out
filled_self {o} {at} {d} {ss} {so} {places} {out} h f =
    let r = rows so d 0 ss in
    record {
      stands = f.stands ∙ sym (ap (λ (z : List ℕ). splice z at r) f.stands ∙ splice_over o at r r h refl);
      place = f.place;
    }

pub filled_over : {o : List ℕ} (e : List ℕ) {at d : ℕ} {ss : List ℕ} {so : ℕ → List Appointment} {places out : List ℕ} (old : List ℕ) → at ≤ length e → length old ≡ length (rows so d 0 ss) → o ≡ splice e at old → FilledBlocks o at d ss so places out → out ≡ splice e at (rows so d 0 ss)
filled_over {o} e {at} {d} {ss} {so} old h l q f =
    f.stands ∙ ap (λ (z : List ℕ). splice z at (rows so d 0 ss)) q ∙ splice_over e at old (rows so d 0 ss) h l
