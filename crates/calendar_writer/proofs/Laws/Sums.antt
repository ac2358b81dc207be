-- The sums of a span give the measure, the table and the blocks of its days.
-- Assumes nothing.
use Prim.Native.Nat.{ℕ, suc, ◌+◌, ◌-◌, ◌*◌, ◌<◌, ◌≤◌}
use Rattle.std.specs.Prelude.{◌≡◌, get_or}
use Rattle.std.proofs.Math.Path.{refl, ap}
use Rattle.std.proofs.Common.{sym, ◌∙◌, add-zero, zero-add}
use mathlib.Core.List.{List, [], ◌∷◌, ◌++◌, append_assoc}
use native.Mathlib.Omega.{arith}
use Rattle.std.proofs.Math.Numerals.{add-one}
use Rattle.std.proofs.Math.ListN.{length}
use Rattle.prelude.proofs.Laws.Choice.{is_eq, is_ne, eq_elim}
use Rattle.sorting.specs.Totals.{total}
use Rattle.sorting.proofs.Laws.Totals.{total-nil, total-cons}
use Rattle.calendar.specs.File.{Appointment, Day, zeros, units, filled, appointments_bytes, block_bytes, blocks, alarms, descriptor_bytes, table}
use Rattle.calendar.proofs.Laws.File.{length_block}
use Rattle.calendar.specs.declared.types.CalendarSettings.{CalendarSettings}
use Rattle.calendar_writer.specs.DayLists.{add_day, days_with}
use Rattle.calendar_writer.proofs.Laws.Measure.{units_of, file_units, before_last, past_last}
use Rattle.calendar_writer.proofs.Laws.Spans.{add-day-nil, add-day-some, days-none, days-next}
use Rattle.calendar_writer.specs.Sums.{measure_of, sum_of, count_in, alarms_in, bytes_in, Sum, Sums, units_for, measured, sum_up, descriptor_of, sum_table, block_head, row_of, rows}
use Rattle.calendar_writer.specs.declared.types.Measure.{Measure}

-- what a sum holds, where no part runs into the next
pub sum_parts : {s : ℕ} (n a b : ℕ) → s ≡ sum_of n a b → a ≤ b → b ≤ 65535 → (count_in s ≡ n) × (alarms_in s ≡ a) × (bytes_in s ≡ b)
sum_parts n a b e l h = (omega arith, omega arith, omega arith)

-- the sums by place
pub sums_at : (list : ℕ → List Appointment) (d : ℕ) (ss : List ℕ) → ((k : ℕ) → k < length ss → Sum (get_or ss k 0) (list (d + k))) → Sums list d ss
sums_at list d [] h = tt
sums_at list d (s ∷ ss) h = (
  rw (add-zero d) at (h 0 (omega arith)),
  sums_at list (suc d) ss (λ k l. let e : d + suc k ≡ suc d + k = omega arith in rw e at (h (suc k) (omega arith))),
)

-- a day without appointments has the sum 0, and no other
sum_none : (al : List Appointment) → Sum 0 al → al ≡ []
sum_none [] h = refl
sum_none (a ∷ al) h = absurd (let e : ◌≡◌ {A = ℕ} 0 (length (a ∷ al)) = h.count in omega arith)

sum_some : {s : ℕ} (al : List Appointment) → Sum s al → (s ≡ 0 → ⊥) → 0 < length al
unfolding alarms appointments_bytes
sum_some {s} [] h n = absurd (n (omega (arith, h.count, h.alarm, h.bytes)))
sum_some {s} (a ∷ al) h n = omega arith

-- a day of a sum
abbrev day_of : ℕ → List Appointment → Day
day_of d al = record { day = d; appointments = al }

sum_units : {s : ℕ} (d : ℕ) (al : List Appointment) → Sum s al → units_for s ≡ units_of (day_of d al)
sum_units {s} d al h = ap units (ap (λ (n : ℕ). 10 + n) h.bytes ∙ sym (length_block (day_of d al)))

abbrev held : Day → ℕ
held x = length x.appointments

-- Each day with its sum: those of sum 0 are left out.
module _ (list : ℕ → List Appointment) where
  skip-day : (d : ℕ) (ss : List ℕ) {s : ℕ} → Sum s (list d) → s ≡ 0 → days_with list (suc (length ss)) d ≡ days_with list (length ss) (suc d)
  skip-day d ss h e =
      days-next list (length ss) d
      ∙ ap (λ (al : List Appointment). add_day d al (days_with list (length ss) (suc d))) (sum_none (list d) (rw e at h))
      ∙ add-day-nil d _

  take-day : (d : ℕ) (ss : List ℕ) {s : ℕ} → Sum s (list d) → (s ≡ 0 → ⊥) → days_with list (suc (length ss)) d ≡ day_of d (list d) ∷ days_with list (length ss) (suc d)
  take-day d ss h n = days-next list (length ss) d ∙ add-day-some d _ (list d) (sum_some (list d) h n)

  -- the table
  descriptor-sum : {s : ℕ} (d u : ℕ) → Sum s (list d) → descriptor_of d (alarms_in s) u ≡ descriptor_bytes u (day_of d (list d))
  unfolding descriptor_of descriptor_bytes
  descriptor-sum d u h = rw h.alarm

  table_cons : {s : ℕ} (d u : ℕ) (ds : List Day) → Sum s (list d) → descriptor_of d (alarms_in s) u ++ table (u + units_for s) ds ≡ table u (day_of d (list d) ∷ ds)
  unfolding table
  table_cons {s} d u ds h =
      rw (descriptor-sum d u h) (ap (λ (n : ℕ). descriptor_bytes u (day_of d (list d)) ++ table (u + n) ds) (sum_units d (list d) h))

  table_none : (u : ℕ) → [] ≡ table u []
  unfolding table
  table_none u = refl

  pub table-sums : (d u : ℕ) (ss : List ℕ) → Sums list d ss → sum_table d u ss ≡ table u (days_with list (length ss) d)
  unfolding sum_table
  table-sums d u [] h = table_none u ∙ ap (table u) (sym (days-none list d))
  table-sums d u (s ∷ ss) h =
      eq_elim (λ z. z ≡ table u (days_with list (suc (length ss)) d)) s 0 _ _
      (λ e. rw (add-one d) (table-sums (suc d) u ss h.1) ∙ ap (table u) (sym (skip-day d ss h.0 e)))
      (λ n. rw (add-one d, table-sums (suc d) (u + units_for s) ss h.1) (table_cons d u _ h.0) ∙ ap (table u) (sym (take-day d ss h.0 n)))

  -- the blocks, with all their appointments
  block-head : (d : ℕ) → block_bytes (day_of d (list d)) ≡ block_head d (length (appointments_bytes (list d))) ++ appointments_bytes (list d)
  unfolding block_head block_bytes
  block-head d = simp append_assoc

  fill-size : (d : ℕ) → let n = length (appointments_bytes (list d)) in let b = length (block_bytes (day_of d (list d))) in 64 * units (10 + n) - 10 - n ≡ 64 * units b - b
  fill-size d = let l = length_block (day_of d (list d)) in omega arith

  row-sum : {s : ℕ} (d : ℕ) → Sum s (list d) → (s ≡ 0 → ⊥) → row_of d s (list d) ≡ filled (block_bytes (day_of d (list d)))
  unfolding row_of filled
  row-sum {s} d h n =
      is_ne n _ _
      ∙ rw h.bytes (sym (append_assoc (block_head d (length (appointments_bytes (list d)))) (appointments_bytes (list d)) _))
      ∙ ap (λ (xs : List ℕ). xs ++ zeros (64 * units (10 + length (appointments_bytes (list d))) - 10 - length (appointments_bytes (list d)))) (sym (block-head d))
      ∙ ap (λ (m : ℕ). block_bytes (day_of d (list d)) ++ zeros m) (fill-size d)

  row-none : {s : ℕ} (d : ℕ) (al : List Appointment) → s ≡ 0 → row_of d s al ≡ []
  unfolding row_of
  row-none d al e = is_eq e _ _

  blocks-none : [] ≡ blocks []
  unfolding blocks
  blocks-none = refl

  blocks_cons : (x : Day) (ds : List Day) → filled (block_bytes x) ++ blocks ds ≡ blocks (x ∷ ds)
  unfolding blocks
  blocks_cons x ds = refl

  pub rows-sums : (so : ℕ → List Appointment) (d k : ℕ) (ss : List ℕ) → Sums list d ss → ((i : ℕ) → i < length ss → so (k + i) ≡ list (d + i)) → rows so d k ss ≡ blocks (days_with list (length ss) d)
  unfolding rows
  rows-sums so d k [] h e = blocks-none ∙ ap blocks (sym (days-none list d))
  rows-sums so d k (s ∷ ss) h e =
      let here : so k ≡ list d = ap so (sym (add-zero k)) ∙ e 0 (omega arith) ∙ ap list (add-zero d) in
      let later : rows so (d + 1) (k + 1) ss ≡ blocks (days_with list (length ss) (suc d)) = rw (add-one d, add-one k) (rows-sums so (suc d) (suc k) ss h.1 (λ i l. let a : suc k + i ≡ k + suc i = omega arith in let b : suc d + i ≡ d + suc i = omega arith in rw (a, b) (e (suc i) (omega arith)))) in
      rw (here, later)
      (eq_elim {X = Unit {0}} (λ _. row_of d s (list d) ++ blocks (days_with list (length ss) (suc d)) ≡ blocks (days_with list (suc (length ss)) d)) s 0 tt tt
      (λ z. rw (row-none d (list d) z, skip-day d ss h.0 z))
      (λ n. rw (row-sum d h.0 n, take-day d ss h.0 n) (blocks_cons _ _)))

  -- the measure
  last_none : (last u : ℕ) → last ≡ before_last last u []
  unfolding before_last
  last_none last u = refl

  last_cons : (last u : ℕ) (x : Day) (ds : List Day) → before_last u (u + units_of x) ds ≡ before_last last u (x ∷ ds)
  unfolding before_last
  last_cons last u x ds = refl

  abbrev over : ℕ → ℕ → ℕ → ℕ → List Day → Measure
  over n u last a ds = measured (n + length ds) (u + total units_of ds) (before_last last u ds) (a + total held ds)

  over_none : (n u last a : ℕ) → measured n u last a ≡ over n u last a []
  over_none n u last a = rw (total-nil units_of, total-nil held, ← last_none last u, add-zero n, add-zero u, add-zero a)

  over-cons : {s : ℕ} (n u last a d : ℕ) (ds : List Day) → Sum s (list d) → over (n + 1) (u + units_for s) u (a + count_in s) ds ≡ over n u last a (day_of d (list d) ∷ ds)
  over-cons {s} n u last a d ds h =
      let x = day_of d (list d) in
      let e1 : n + 1 + length ds ≡ n + length (x ∷ ds) = omega arith in
      let e2 : u + units_of x + total units_of ds ≡ u + total units_of (x ∷ ds) = omega (arith, total-cons units_of x ds) in
      let e3 : a + length (list d) + total held ds ≡ a + total held (x ∷ ds) = omega (arith, total-cons held x ds) in
      rw (sum_units d (list d) h, h.count, e1, e2, e3, last_cons last u x ds)

  sums-over : (d n u last a : ℕ) (ss : List ℕ) → Sums list d ss → sum_up n u last a ss ≡ over n u last a (days_with list (length ss) d)
  unfolding sum_up
  sums-over d n u last a [] h = over_none n u last a ∙ ap (over n u last a) (sym (days-none list d))
  sums-over d n u last a (s ∷ ss) h =
      eq_elim (λ z. z ≡ over n u last a (days_with list (suc (length ss)) d)) s 0 _ _
      (λ e. sums-over (suc d) n u last a ss h.1 ∙ ap (over n u last a) (sym (skip-day d ss h.0 e)))
      (λ x. sums-over (suc d) (n + 1) (u + units_for s) u (a + count_in s) ss h.1 ∙ over-cons n u last a d _ h.0 ∙ ap (over n u last a) (sym (take-day d ss h.0 x)))

  pub measure-sums : (z : CalendarSettings) (d : ℕ) (ss : List ℕ) → Sums list d ss → sum_up 0 0 0 0 ss ≡ measure_of z (days_with list (length ss) d)
  measure-sums z d ss h =
      let ds = days_with list (length ss) d in
      sums-over d 0 0 0 0 ss h ∙ rw (zero-add (length ds), zero-add (total units_of ds), zero-add (total held ds), ← file_units z ds, ← past_last ds)
