-- Laws of the days of a span: one day at a time, what they hold on a day, and that the reader takes them as they are.
-- Assumes nothing.
use Prim.Native.Nat.{ℕ, zero, suc, ◌+◌, ◌<◌, ◌≤◌}
use Rattle.std.specs.Prelude.{◌≡◌, false, length}
use Rattle.std.proofs.Math.Path.{refl}
use Rattle.std.proofs.Common.{◌∙◌, true≢false}
use mathlib.Core.List.{List, [], ◌∷◌}
use native.Mathlib.Omega.{arith}
use Rattle.prelude.proofs.Laws.Choice.{is_eq, is_ne, eq_elim, lt_skip}
use Rattle.days.specs.Days.{last_day}
use Rattle.calendar.specs.File.{Appointment, Day, appointments_bytes, last_block}
use Rattle.calendar_writer.specs.DayLists.{add_day, days_with, past_last_block_from}
use Rattle.calendar_writer.proofs.Laws.ListRead.{GoodList}
use Rattle.calendar_writer.proofs.Laws.TableRead.{GoodDays, list_on, list_on_nil}

module _ (d : ℕ) (ds : List Day) where
  -- a day without appointments is left out, another stands in front
  pub add-day-nil : add_day d [] ds ≡ ds
  unfolding add_day
  add-day-nil = refl

  pub add-day-some : (al : List Appointment) → 0 < length al → add_day d al ds ≡ record { day = d; appointments = al } ∷ ds
  unfolding add_day
  add-day-some [] h = absurd (omega arith)
  add-day-some (a ∷ al) h = refl

  before-few : (al : List Appointment) → length (add_day d al ds) ≤ suc (length ds)
  unfolding add_day
  before-few [] = omega arith
  before-few (a ∷ al) = omega arith

  -- what they hold on the day itself and on another
  before_here : (al : List Appointment) → list_on d ds ≡ [] → list_on d (add_day d al ds) ≡ al
  unfolding add_day list_on
  before_here [] h = h
  before_here (a ∷ al) h = is_eq refl _ _

  before-other : (x : ℕ) (al : List Appointment) → (d ≡ x → ⊥) → list_on x (add_day d al ds) ≡ list_on x ds
  unfolding add_day list_on
  before-other x [] n = refl
  before-other x (a ∷ al) n = is_ne n _ _

-- what a day's list has to be
pub record GoodSize (al : List Appointment) : Type 0 where
  pub list : GoodList 0 al
  pub size : length (appointments_bytes al) < 65536

before_good :
    (d low u : ℕ) (al : List Appointment) (ds : List Day) → GoodSize al → d ≤ last_day → low ≤ d → past_last_block_from u (add_day d al ds) ≡ false
    → ((l v : ℕ) → l ≤ suc d → past_last_block_from v ds ≡ false → GoodDays l v ds) → GoodDays low u (add_day d al ds)
unfolding add_day past_last_block_from
before_good d low u [] ds g k l past next = next low u (omega arith) past
before_good d low u (a ∷ al) ds g k l past next =
    let e = lt_skip last_block u _ _ true≢false past in
    (record { known = k; size = g.size; list = g.list }, l, e.0, next (d + 1) _ (omega arith) e.1)

module _ (list : ℕ → List Appointment) where
  -- one day at a time
  pub days-none : (d : ℕ) → days_with list 0 d ≡ []
  unfolding days_with
  days-none d = refl

  pub days-next : (k d : ℕ) → days_with list (suc k) d ≡ add_day d (list d) (days_with list k (suc d))
  unfolding days_with
  days-next k d = refl

  pub days-few : (k d : ℕ) → length (days_with list k d) ≤ k
  unfolding days_with
  days-few zero d = omega arith
  days-few (suc k) d = omega (arith, days-few k (suc d), before-few d (days_with list k (suc d)) (list d))

  -- outside the span they hold nothing
  pub days-other : (k d x : ℕ) → (d ≤ x → x < d + k → ⊥) → list_on x (days_with list k d) ≡ []
  unfolding days_with
  days-other zero d x n = list_on_nil x
  days-other (suc k) d x n =
      before-other d (days_with list k (suc d)) x (list d) (λ e. n (omega arith) (omega arith))
      ∙ days-other k (suc d) x (λ l h. n (omega arith) (omega arith))

  -- inside they hold the day's list
  pub days-on : (k d x : ℕ) → d ≤ x → x < d + k → list_on x (days_with list k d) ≡ list x
  unfolding days_with
  days-on zero d x l h = absurd (omega arith)
  days-on (suc k) d x l h =
      let ds : List Day = days_with list k (suc d) in
      eq_elim {X = Unit {0}} (λ _. list_on x (add_day d (list d) ds) ≡ list x) d x tt tt
      (λ e. rw (← e) (before_here d ds (list d) (days-other k (suc d) d (λ m i. omega arith))))
      (λ n. before-other d ds x (list d) n ∙ days-on k (suc d) x (omega arith) (omega arith))

  pub days-good : ((x : ℕ) → GoodSize (list x)) → (k d low u : ℕ) → low ≤ d → d + k ≤ last_day + 1 → past_last_block_from u (days_with list k d) ≡ false → GoodDays low u (days_with list k d)
  unfolding days_with
  days-good g zero d low u l h past = tt
  days-good g (suc k) d low u l h past =
      before_good d low u (list d) (days_with list k (suc d)) (g d) (omega arith) l past
      (λ l₂ v m f. days-good g k (suc d) l₂ v m (omega arith) f)
