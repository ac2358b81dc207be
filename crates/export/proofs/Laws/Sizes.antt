-- The sizes of demand 3, stated over the lists of the days, are those of the Calendar file of these days: its length, and 13.
-- Assumes nothing.
use Rattle.std.specs.Prelude.{ℕ, zero, suc, ◌+◌, ◌*◌, ◌<◌, ◌≤◌, ◌≡◌, true, false, List, [], ◌∷◌, map, length}
use Rattle.std.proofs.Math.Path.{refl}
use Rattle.std.proofs.Common.{sym, ap, ◌∙◌, arith, add-zero}
use Rattle.std.proofs.lemmas.List.{length-map}
use Rattle.prelude.proofs.Laws.Choice.{is_lt, is_ge, lt_elim}
use Rattle.sorting.specs.Totals.{total}
use Rattle.sorting.proofs.Laws.Totals.{total-nil, total-cons, total-map, total_cong}
use Rattle.calendar.specs.File.{Appointment, Day, first_unit, file_of, last_block}
use Rattle.calendar.proofs.Laws.File.{length_block}
use Rattle.calendar.specs.declared.types.CalendarSettings.{CalendarSettings}
use Rattle.calendar_writer.specs.DayLists.{add_day, days_with, past_last_block_from, past_last_block}
use Rattle.calendar_writer.proofs.Laws.Measure.{units_of, file_units}
use Rattle.calendar_writer.proofs.Laws.Spans.{add-day-nil, add-day-some, days-none, days-next}
use Rattle.export.specs.Demand.{Showing, shown, last_start, busy_days, block_units, first_start, block_start, file_size, StartsLate}
use Rattle.export.proofs.Laws.Appointments.{bytes_of, length_appointments}

-- a day of a span, one at a time
module _ (list : ℕ → List Showing) (d k : ℕ) where
  busy-none : busy_days list d 0 ≡ []
  unfolding busy_days
  busy-none = refl

  busy-take : 0 < length (list d) → busy_days list d (suc k) ≡ d ∷ busy_days list (suc d) k
  unfolding busy_days
  busy-take h = is_lt h _ _

  busy-skip : length (list d) ≤ 0 → busy_days list d (suc k) ≡ busy_days list (suc d) k
  unfolding busy_days
  busy-skip h = is_ge h _ _

no_appointments : (al : List Appointment) → length al ≤ 0 → al ≡ []
no_appointments [] h = refl
no_appointments (a ∷ al) h = absurd (omega arith)

past_none : (u : ℕ) → past_last_block_from u [] ≡ false
unfolding past_last_block_from
past_none u = refl

past_late : (u : ℕ) (x : Day) (ds : List Day) → last_block < u → past_last_block_from u (x ∷ ds) ≡ true
unfolding past_last_block_from
past_late u x ds h = is_lt h _ _

past_next : (u : ℕ) (x : Day) (ds : List Day) → u ≤ last_block → past_last_block_from u (x ∷ ds) ≡ past_last_block_from (u + units_of x) ds
unfolding past_last_block_from
past_next u x ds h = is_ge h _ _

-- The days' appointments, and the lists that they show.
module _ (al : ℕ → List Appointment) (list : ℕ → List Showing) (same : (d : ℕ) → map shown (al d) ≡ list d) where
  abbrev day_at : ℕ → Day
  day_at d = record { day = d; appointments = al d }

  abbrev before : ℕ → ℕ → ℕ
  before d k = total (λ x. block_units (list x)) (busy_days list d k)

  same_length : (d : ℕ) → length (al d) ≡ length (list d)
  same_length d = sym (length-map (al d) shown) ∙ ap length (same d)

  same_bytes : (d : ℕ) → total bytes_of (al d) ≡ total (λ x. 5 + length x.text) (list d)
  same_bytes d = sym (total-map (λ (x : Showing). 5 + length x.text) shown (al d)) ∙ ap (total (λ (x : Showing). 5 + length x.text)) (same d)

  same_units : (d : ℕ) → units_of (day_at d) ≡ block_units (list d)
  same_units d = omega (arith, length_block (day_at d), length_appointments (al d), same_bytes d)

  take-day : (k d : ℕ) → 0 < length (list d) → days_with al (suc k) d ≡ day_at d ∷ days_with al k (suc d)
  take-day k d h = days-next al k d ∙ add-day-some d _ (al d) (omega (arith, same_length d))

  skip-day : (k d : ℕ) → length (list d) ≤ 0 → days_with al (suc k) d ≡ days_with al k (suc d)
  skip-day k d h =
      days-next al k d
      ∙ ap (λ (xs : List Appointment). add_day d xs (days_with al k (suc d))) (no_appointments (al d) (omega (arith, same_length d)))
      ∙ add-day-nil d _

  -- the days with appointments are those that list something
  days-busy : (k d : ℕ) → days_with al k d ≡ map day_at (busy_days list d k)
  days-busy zero d = days-none al d ∙ ap (map day_at) (sym (busy-none list d 0))
  days-busy (suc k) d =
      lt_elim {X = Unit {0}} (λ _. days_with al (suc k) d ≡ map day_at (busy_days list d (suc k))) 0 (length (list d)) tt tt
      (λ h. rw (take-day k d h, busy-take list d k h, days-busy k (suc d)))
      (λ h. rw (skip-day k d h, busy-skip list d k h, days-busy k (suc d)))

  length-busy : (k d : ℕ) → length (days_with al k d) ≡ length (busy_days list d k)
  length-busy k d = ap length (days-busy k d) ∙ length-map (busy_days list d k) day_at

  units-busy : (k d : ℕ) → total units_of (days_with al k d) ≡ before d k
  units-busy k d = ap (total units_of) (days-busy k d) ∙ total-map units_of day_at (busy_days list d k) ∙ total_cong _ _ same_units (busy_days list d k)

  first-busy : (k d : ℕ) → first_unit (length (days_with al k d)) ≡ first_start (length (busy_days list d k))
  first-busy k d = omega (arith, length-busy k d)

  -- one day more behind
  before-first : (d : ℕ) → before d 0 ≡ 0
  before-first d = ap (total (λ x. block_units (list x))) (busy-none list d 0) ∙ total-nil (λ x. block_units (list x))

  before-take : (d k : ℕ) → 0 < length (list d) → before d (suc k) ≡ units_of (day_at d) + before (suc d) k
  before-take d k h = rw (busy-take list d k h, same_units d) (total-cons (λ x. block_units (list x)) d (busy_days list (suc d) k))

  before-skip : (d k : ℕ) → length (list d) ≤ 0 → before d (suc k) ≡ before (suc d) k
  before-skip d k h = ap (total (λ x. block_units (list x))) (busy-skip list d k h)

  -- 13, both ways, where u units lie before the span's first block
  late-from : (n d u k : ℕ) → k < n → 0 < length (list (d + k)) → last_start < u + before d k → past_last_block_from u (days_with al n d) ≡ true
  late-from zero d u k l b h = absurd (omega arith)
  late-from (suc n) d u zero l b h = rw (take-day n d (rw (add-zero d) at b)) (past_late u _ _ (omega (arith, before-first d)))
  late-from (suc n) d u (suc k) l b h =
      let e : d + suc k ≡ suc d + k = omega arith in
      let later : 0 < length (list (suc d + k)) = rw e at b in
      lt_elim {X = Unit {0}} (λ _. past_last_block_from u (days_with al (suc n) d) ≡ true) 0 (length (list d)) tt tt
      (λ t.
      rw (take-day n d t)
      (lt_elim {X = Unit {0}} (λ _. past_last_block_from u (day_at d ∷ days_with al n (suc d)) ≡ true) last_block u tt tt
      (λ p. past_late u _ _ p)
      (λ p. past_next u _ _ p ∙ late-from n (suc d) (u + units_of (day_at d)) k (omega arith) later (omega (arith, before-take d k t)))))
      (λ t. rw (skip-day n d t) (late-from n (suc d) u k (omega arith) later (omega (arith, before-skip d k t))))

  near-from : (n d u : ℕ) → ((k : ℕ) → k < n → 0 < length (list (d + k)) → u + before d k ≤ last_start) → past_last_block_from u (days_with al n d) ≡ false
  near-from zero d u h = rw (days-none al d) (past_none u)
  near-from (suc n) d u h =
      let later : (k : ℕ) → k < n → 0 < length (list (suc d + k)) → u + before d (suc k) ≤ last_start = λ k l b. let e : d + suc k ≡ suc d + k = omega arith in h (suc k) (omega arith) (rw e b) in
      lt_elim {X = Unit {0}} (λ _. past_last_block_from u (days_with al (suc n) d) ≡ false) 0 (length (list d)) tt tt
      (λ t.
      rw (take-day n d t)
      (past_next u _ _ (omega (arith, before-first d, h 0 (omega arith) (rw (add-zero d) t)))
      ∙ near-from n (suc d) (u + units_of (day_at d)) (λ k l b. omega (arith, before-take d k t, later k l b))))
      (λ t. rw (skip-day n d t) (near-from n (suc d) u (λ k l b. omega (arith, before-skip d k t, later k l b))))

  -- The sizes of the file of count days from the first on.
  module _ (first count : ℕ) where
    pub days-size : (s : CalendarSettings) → length (file_of s (days_with al count first)) ≡ file_size list first count
    days-size s = file_units s (days_with al count first) ∙ ap (λ (n : ℕ). 64 * n) (omega (arith, first-busy count first, units-busy count first))

    pub days-late : {k : ℕ} → StartsLate list first count k → past_last_block (days_with al count first) ≡ true
    unfolding past_last_block
    days-late {k} s = late-from count first _ k s.inside s.busy (omega (arith, first-busy count first, s.late))

    pub days-near : ((k : ℕ) → StartsLate list first count k → ⊥) → past_last_block (days_with al count first) ≡ false
    unfolding past_last_block
    days-near none =
        near-from count first _
        (λ k l b.
        lt_elim {X = Unit {0}} (λ _. first_unit (length (days_with al count first)) + before first k ≤ last_start) last_start (block_start list first count k) tt tt
        (λ h. absurd (none k (record { inside = l; busy = b; late = h })))
        (λ h. omega (arith, first-busy count first)))
