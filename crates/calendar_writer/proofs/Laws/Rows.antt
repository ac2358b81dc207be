-- The blocks of a span with some of their appointments written: how long they are, and one appointment more.
-- Assumes nothing.
use Prim.Native.Nat.{ℕ, zero, suc, ◌+◌, ◌-◌, ◌*◌, ◌<◌, ◌≤◌}
use Rattle.std.specs.Prelude.{◌≡◌, refl, get_or}
use Rattle.std.proofs.Common.{sym, ap, ◌∙◌, add-zero, add-one, length-append}
use mathlib.Core.List.{List, [], ◌∷◌, ◌++◌, append_assoc, append-nil}
use native.Mathlib.Omega.{arith}
use Rattle.std.proofs.Math.ListN.{length}
use Rattle.std.proofs.lemmas.List.{length-replicate, replicate-append-replicate}
use Rattle.prelude.specs.Choice.{if_eq}
use Rattle.prelude.proofs.Laws.Choice.{is_eq, is_ne, eq_elim}
use Rattle.prelude.proofs.Laws.Bytes.{length-le16}
use Rattle.calendar.specs.File.{Appointment, zeros, appointment_bytes, appointments_bytes}
use Rattle.calendar_writer.specs.Sums.{bytes_in, units_for, block_head, row_of, rows, units_to, none_yet}
use Rattle.calendar_writer.proofs.Laws.Spots.{Spot, spot_left, spot_right}

-- one appointment more
pub bytes_append : (al bl : List Appointment) → appointments_bytes (al ++ bl) ≡ appointments_bytes al ++ appointments_bytes bl
unfolding appointments_bytes
bytes_append [] bl = refl
bytes_append (a ∷ al) bl = rw (bytes_append al bl) (sym (append_assoc (appointment_bytes a) _ _))

bytes_one : (a : Appointment) → appointments_bytes (a ∷ []) ≡ appointment_bytes a
unfolding appointments_bytes
bytes_one a = append-nil (appointment_bytes a)

pub bytes_more : (al : List Appointment) (a : Appointment) → appointments_bytes (al ++ (a ∷ [])) ≡ appointments_bytes al ++ appointment_bytes a
bytes_more al a = bytes_append al (a ∷ []) ∙ ap (λ (l : List ℕ). appointments_bytes al ++ l) (bytes_one a)

pub length_more : (al : List Appointment) (a : Appointment) → length (appointments_bytes (al ++ (a ∷ []))) ≡ length (appointments_bytes al) + length (appointment_bytes a)
length_more al a = ap length (bytes_more al a) ∙ length-append (appointments_bytes al) (appointment_bytes a)

pub length-block_head : (d n : ℕ) → length (block_head d n) ≡ 10
unfolding block_head
length-block_head d n = simp (length-append, length-le16)

-- a block as long as its sum says
row_some : {s : ℕ} (d : ℕ) (al : List Appointment) → (s ≡ 0 → ⊥) → row_of d s al ≡ block_head d (bytes_in s) ++ (appointments_bytes al ++ zeros (64 * units_for s - 10 - length (appointments_bytes al)))
unfolding row_of
row_some d al n = is_ne n _ _

zeros-split : (x n : ℕ) → x ≤ n → zeros n ≡ zeros x ++ zeros (n - x)
zeros-split x n h =
    let e : n ≡ x + (n - x) = omega arith in
    ap zeros e ∙ sym (replicate-append-replicate {A = ℕ} x (n - x) 0)

row_spot : {s : ℕ} (d : ℕ) (al : List Appointment) (a : Appointment) → (s ≡ 0 → ⊥) → length (appointments_bytes al) + length (appointment_bytes a) ≤ bytes_in s → Spot (row_of d s al) (row_of d s (al ++ (a ∷ []))) (10 + length (appointments_bytes al)) (appointment_bytes a)
row_spot {s} d al a n h =
    let head = block_head d (bytes_in s) in
    let bs = appointments_bytes al in
    let x = length (appointment_bytes a) in
    let free = 64 * units_for s - 10 - length bs in
    let f : 64 * units_for s - 10 - length (appointments_bytes (al ++ (a ∷ []))) ≡ free - x = omega (arith, length_more al a) in
    record {
      u = head ++ bs;
      v = zeros (free - x);
      long = omega (arith, length-append head bs, length-block_head d (bytes_in s));
      before = row_some d al n ∙ ap (λ (l : List ℕ). head ++ (bs ++ l)) (zeros-split x free (omega arith)) ∙ sym (append_assoc head bs _);
      after = row_some d (al ++ (a ∷ [])) n ∙ rw (f, bytes_more al a) (simp append_assoc);
    }

-- the appointments so far fit into the days' bytes
pub record Fits (so : ℕ → List Appointment) (k : ℕ) (ss : List ℕ) : Type 0 where
  pub each : (i : ℕ) → i < length ss → length (appointments_bytes (so (k + i))) ≤ bytes_in (get_or ss i 0)

fits_here : {so : ℕ → List Appointment} {k s : ℕ} {ss : List ℕ} → Fits so k (s ∷ ss) → length (appointments_bytes (so k)) ≤ bytes_in s
fits_here {so} {k} f = rw (add-zero k) at (f.each 0 (omega arith))

fits_later : {so : ℕ → List Appointment} {k s : ℕ} {ss : List ℕ} → Fits so k (s ∷ ss) → Fits so (suc k) ss
fits_later {so} {k} f =
    record { each = λ i l. let e : suc k + i ≡ k + suc i = omega arith in rw e (f.each (suc i) (omega arith)) }

-- how long they are
row_units : ℕ → ℕ
row_units s = if_eq s 0 0 (units_for s)

length_row : (s d : ℕ) (al : List Appointment) → length (appointments_bytes al) ≤ bytes_in s → length (row_of d s al) ≡ 64 * row_units s
unfolding row_of row_units
length_row s d al h =
    eq_elim {X = Unit {0}} (λ _. length (if_eq s 0 [] (block_head d (bytes_in s) ++ (appointments_bytes al ++ zeros (64 * units_for s - 10 - length (appointments_bytes al))))) ≡ 64 * if_eq s 0 0 (units_for s)) s 0 tt tt
    (λ e. rw (is_eq e, is_eq e))
    (λ n. rw (is_ne n, is_ne n) (simp (length-append, length-replicate, length-block_head) (omega arith)))

units_next : (k s : ℕ) (ss : List ℕ) → units_to (suc k) (s ∷ ss) ≡ row_units s + units_to k ss
unfolding units_to row_units
units_next k s ss = eq_elim {X = Unit {0}} (λ _. if_eq s 0 (units_to k ss) (units_for s + units_to k ss) ≡ if_eq s 0 0 (units_for s) + units_to k ss) s 0 tt tt (λ e. rw (is_eq e, is_eq e) (omega arith)) (λ n. rw (is_ne n, is_ne n))

pub units_first : (ss : List ℕ) → units_to 0 ss ≡ 0
unfolding units_to
units_first ss = refl

units-some : {s : ℕ} → (s ≡ 0 → ⊥) → row_units s ≡ units_for s
unfolding row_units
units-some n = is_ne n _ _

-- a block ends where the blocks end, or before
pub units_room : (i : ℕ) (ss : List ℕ) → i < length ss → (get_or ss i 0 ≡ 0 → ⊥) → units_to i ss + units_for (get_or ss i 0) ≤ units_to (length ss) ss
units_room i [] h n = absurd (omega arith)
units_room zero (s ∷ ss) h n = omega (arith, units_first (s ∷ ss), units_next (length ss) s ss, units-some n)
units_room (suc i) (s ∷ ss) h n = omega (arith, units_next i s ss, units_next (length ss) s ss, units_room i ss (omega arith) n)

-- one block on
units_step : (k : ℕ) (ss : List ℕ) → k < length ss → units_to (k + 1) ss ≡ units_to k ss + row_units (get_or ss k 0)
units_step k [] h = absurd (omega arith)
units_step zero (s ∷ ss) h = omega (arith, units_first (s ∷ ss), units_first ss, units_next 0 s ss)
units_step (suc k) (s ∷ ss) h =
    let e : suc k + 1 ≡ suc (k + 1) = omega arith in
    rw e (omega (arith, units_next (k + 1) s ss, units_next k s ss, units_step k ss (omega arith)))

none_long : length (appointments_bytes []) ≡ 0
unfolding appointments_bytes
none_long = refl

pub blank_step : (d k : ℕ) (ss : List ℕ) → k < length ss → 64 * units_to (k + 1) ss ≡ 64 * units_to k ss + length (row_of d (get_or ss k 0) [])
blank_step d k ss h = omega (arith, units_step k ss h, length_row (get_or ss k 0) d [] (omega (arith, none_long)))

pub fits_none : (k : ℕ) (ss : List ℕ) → Fits none_yet k ss
fits_none k ss = record { each = λ i l. omega (arith, none_long) }

pub length-rows : (so : ℕ → List Appointment) (d k : ℕ) (ss : List ℕ) → Fits so k ss → length (rows so d k ss) ≡ 64 * units_to (length ss) ss
unfolding rows
length-rows so d k [] f = rw (units_first [])
length-rows so d k (s ∷ ss) f =
    let here = length_row s d (so k) (fits_here f) in
    let later : length (rows so (d + 1) (k + 1) ss) ≡ 64 * units_to (length ss) ss = rw (add-one k) (length-rows so (d + 1) (suc k) ss (fits_later f)) in
    omega (arith, length-append (row_of d s (so k)) (rows so (d + 1) (k + 1) ss), here, later, units_next (length ss) s ss)

-- what the rows are goes by the days below their end
pub rows_same : (so so' : ℕ → List Appointment) (d k : ℕ) (ss : List ℕ) → ((i : ℕ) → i < length ss → so (k + i) ≡ so' (k + i)) → rows so d k ss ≡ rows so' d k ss
unfolding rows
rows_same so so' d k [] h = refl
rows_same so so' d k (s ∷ ss) h =
    let here : so k ≡ so' k = rw (add-zero k) at (h 0 (omega arith)) in
    let later : rows so (d + 1) (k + 1) ss ≡ rows so' (d + 1) (k + 1) ss = rows_same so so' (d + 1) (k + 1) ss (λ i l. let e : k + 1 + i ≡ k + suc i = omega arith in rw e (h (suc i) (omega arith))) in
    rw (here, later)

-- one appointment more on day i, the j-th from k on
module _ (so so' : ℕ → List Appointment) (a : Appointment) (i : ℕ) (one : so' i ≡ so i ++ (a ∷ [])) (same : (x : ℕ) → (x ≡ i → ⊥) → so' x ≡ so x) (some : 0 < length (appointment_bytes a)) where
  abbrev behind : ℕ
  behind = 10 + length (appointments_bytes (so i))

  spot-here : (d s : ℕ) (ss : List ℕ) → length (appointments_bytes (so i)) + length (appointment_bytes a) ≤ bytes_in s → Spot (row_of d s (so i) ++ rows so (d + 1) (i + 1) ss) (row_of d s (so' i) ++ rows so' (d + 1) (i + 1) ss) behind (appointment_bytes a)
  spot-here d s ss r =
      let later : rows so' (d + 1) (i + 1) ss ≡ rows so (d + 1) (i + 1) ss = rows_same so' so (d + 1) (i + 1) ss (λ x l. same (i + 1 + x) (λ y. omega arith)) in
      rw (later, one) (spot_left _ (row_spot d (so i) a (λ x. omega arith) r))

  pub rows-spot :
      (d k j : ℕ) (ss : List ℕ) → i ≡ k + j → j < length ss → Fits so k ss → length (appointments_bytes (so i)) + length (appointment_bytes a) ≤ bytes_in (get_or ss j 0)
      → Spot (rows so d k ss) (rows so' d k ss) (64 * units_to j ss + behind) (appointment_bytes a)
  unfolding rows
  rows-spot d k j [] e h f r = absurd (omega arith)
  rows-spot d k zero (s ∷ ss) e h f r =
      let q : 64 * units_to 0 (s ∷ ss) + behind ≡ behind = omega (arith, units_first (s ∷ ss)) in
      let z : k ≡ i = omega arith in
      rw (q, z) (spot-here d s ss r)
  rows-spot d k (suc j) (s ∷ ss) e h f r =
      let here : so' k ≡ so k = same k (λ x. omega arith) in
      let g : Fits so (k + 1) ss = rw (add-one k) (fits_later f) in
      let q : 64 * units_to (suc j) (s ∷ ss) + behind ≡ length (row_of d s (so k)) + (64 * units_to j ss + behind) = omega (arith, units_next j s ss, length_row s d (so k) (fits_here f)) in
      rw here (spot_right (row_of d s (so k)) q (rows-spot (d + 1) (k + 1) j ss (omega arith) (omega arith) g r))
