-- A record falls on a day just when its rule shows on the day's code.
-- Assumes nothing.
use Rattle.std.specs.Prelude.{◌≡◌, ℕ, ◌+◌, ◌-◌, ◌/◌, ◌%◌, Bool, true, false, ◌≢◌}
use Rattle.std.proofs.Math.Path.{refl, ap}
use Rattle.std.proofs.Common.{sym, ◌∙◌, arith}
use Rattle.std.proofs.Math.Bool.{false≢true}
use Rattle.prelude.specs.Choice.{if_lt, if_eq, if_b}
use Rattle.prelude.proofs.Laws.Choice.{is_ge, is_eq, is_ne, is_true, is_false, b_take, eq_elim, lt_elim}
use Rattle.days.specs.declared.types.DayFacts.{DayFacts}
use Rattle.days.specs.declared.types.Date.{Date}
use Rattle.day_steps.specs.Codes.{date_code, day_code, month_in, day_in, weekday_in, FitsCode, Known}
use Rattle.day_steps.proofs.Laws.Codes.{valid_fits, date_code_parts, Held, day_code_holds, before-code}
use Rattle.records.specs.Ranges.{record_ok}
use Rattle.records.proofs.Laws.Ranges.{record_facts, RepeatFacts}
use Rattle.records.specs.declared.types.Repeat.{Repeat}
use Rattle.records.specs.declared.types.Record.{Record}
use Rattle.falls.specs.Falls.{dated_falls, in_span, weekly_falls, by_position_falls, on_missing_day, on_day, by_date_falls, yearly_falls, falls}
use Rattle.falls.specs.declared.types.ShortMonth.{ShortMonth}
use Rattle.occurrences.specs.Rules.{repeated, rule_of, missing_shows, day_shows, on_date, in_dates, rule_shows}
use Rattle.occurrences.specs.declared.types.Rule.{Rule}

-- by the kind
module _ (c : ShortMonth) (r : Rule) (p : ℕ) where
  pub on-dated : r.kind ≡ 1 → on_date c r p ≡ true
  unfolding on_date
  on-dated e = is_ne (omega arith) _ _ ∙ is_eq e _ _

  pub on-weekly : r.kind ≡ 2 → on_date c r p ≡ if_eq (weekday_in p) r.a true false
  unfolding on_date
  on-weekly e = is_eq e _ _

  pub on-by-date : r.kind ≡ 3 → on_date c r p ≡ day_shows c p r.a
  unfolding on_date
  on-by-date e = is_ne (omega arith) _ _ ∙ is_ne (omega arith) _ _ ∙ is_eq e _ _

  pub on-by-position : r.kind ≡ 4 → on_date c r p ≡ if_eq (weekday_in p) r.a (if_eq ((day_in p + 6) / 7) r.b true false) false
  unfolding on_date
  on-by-position e = is_ne (omega arith) _ _ ∙ is_ne (omega arith) _ _ ∙ is_ne (omega arith) _ _ ∙ is_eq e _ _

  pub on-yearly : r.kind ≡ 5 → on_date c r p ≡ if_eq (month_in p) r.a (day_shows c p r.b) false
  unfolding on_date
  on-yearly e = is_ne (omega arith) _ _ ∙ is_ne (omega arith) _ _ ∙ is_ne (omega arith) _ _ ∙ is_ne (omega arith) _ _ ∙ is_eq e _ _

  pub on-other : (r.kind ≢ 1) → (r.kind ≢ 2) → (r.kind ≢ 3) → (r.kind ≢ 4) → (r.kind ≢ 5) → on_date c r p ≡ false
  unfolding on_date
  on-other a b d e f = is_ne b _ _ ∙ is_ne a _ _ ∙ is_ne d _ _ ∙ is_ne e _ _ ∙ is_ne f _ _

  -- both tests are asked
  pub shows-on : on_date c r p ≡ true → rule_shows c r p ≡ in_dates r p
  unfolding rule_shows
  shows-on e = is_true e _ _

  pub shows-off : on_date c r p ≡ false → rule_shows c r p ≡ false
  unfolding rule_shows
  shows-off e = is_false e _ _

  pub shows-both : rule_shows c r p ≡ true → (on_date c r p ≡ true) × (in_dates r p ≡ true)
  unfolding rule_shows
  shows-both e = b_take (on_date c r p) (in_dates r p) false false≢true e

  pub shows-if : {t : Bool} → on_date c r p ≡ t → rule_shows c r p ≡ if_b t (in_dates r p) false
  unfolding rule_shows
  shows-if e = ap (λ (t : Bool). if_b t (in_dates r p) false) e

-- a choice of a choice
b_eq : {X : Type 0} (a b : ℕ) (t : Bool) (x y : X) → if_b (if_eq a b t false) x y ≡ if_eq a b (if_b t x y) y
b_eq a b t x y =
    eq_elim {X = Unit {0}} (λ _. if_b (if_eq a b t false) x y ≡ if_eq a b (if_b t x y) y) a b tt tt
    (λ e. simp (is_eq e)) (λ n. simp (is_ne n) (is_false refl x y))

module _ (c : ShortMonth) {f : DayFacts} (k : Known f) where
  abbrev h : Held f (day_code f)
  h = day_code_holds k

  repeat-dates : (kind a b : ℕ) (r : Repeat) → RepeatFacts r → in_dates (repeated kind a b r) (day_code f) ≡ in_span f r
  unfolding in_dates in_span
  repeat-dates kind a b r s =
      rw (h.date, before-code k.date (valid_fits s.first), before-code (valid_fits s.last) k.date)

  missing-shows : (z : ShortMonth) → missing_shows z (day_code f) ≡ on_missing_day z f
  unfolding missing_shows on_missing_day
  missing-shows ShortMonth.Skip = refl
  missing-shows ShortMonth.Last = rw (h.day, h.length)

  day-shows : (day : ℕ) → day_shows c (day_code f) day ≡ on_day c f day
  unfolding day_shows on_day
  day-shows day = rw (h.length, h.day, missing-shows c)

  -- the test of a repeat's dates, after its own
  repeat-shows : (kind a b : ℕ) (r : Repeat) → RepeatFacts r → {t : Bool} → on_date c (repeated kind a b r) (day_code f) ≡ t → rule_shows c (repeated kind a b r) (day_code f) ≡ if_b t (in_span f r) false
  repeat-shows kind a b r s {t} e =
      shows-if c (repeated kind a b r) (day_code f) e ∙ ap (λ (z : Bool). if_b t z false) (repeat-dates kind a b r s)

  dated-code : (d : Date) → FitsCode d → if_lt (date_code f.date) (date_code d) false (if_lt (date_code d) (date_code f.date) false true) ≡ if_eq f.date.day d.day (if_eq f.date.month d.month (if_eq f.date.year d.year true false) false) false
  dated-code d v =
      let s = date_code_parts k.date in
      let t = date_code_parts v in
      eq_elim P f.date.day d.day _ _
      (λ e₁. eq_elim P f.date.month d.month _ _
      (λ e₂. eq_elim P f.date.year d.year _ _ (λ e₃. is_ge (omega arith) _ _ ∙ is_ge (omega arith) _ _)
      (λ n. other (λ q. n (sym s.year ∙ ap (λ (z : ℕ). z / 512) q ∙ t.year))))
      (λ n. other (λ q. n (sym s.month ∙ ap (λ (z : ℕ). z / 32 % 16) q ∙ t.month))))
      (λ n. other (λ q. n (sym s.day ∙ ap (λ (z : ℕ). z % 32) q ∙ t.day)))
    where
      P : Bool → Type 0
      P z = if_lt (date_code f.date) (date_code d) false (if_lt (date_code d) (date_code f.date) false true) ≡ z

      other : (date_code f.date ≢ date_code d) → P false
      other n =
          lt_elim (λ z. z ≡ false) (date_code f.date) (date_code d) _ _ (λ _. refl)
          (λ i. lt_elim (λ z. z ≡ false) (date_code d) (date_code f.date) _ _ (λ _. refl) (λ j. absurd (n (omega arith))))

  dated-dates : (kind a b : ℕ) (d : Date) → FitsCode d → in_dates (record { kind = kind; a = a; b = b; first = date_code d; last = date_code d }) (day_code f) ≡ if_eq f.date.day d.day (if_eq f.date.month d.month (if_eq f.date.year d.year true false) false) false
  unfolding in_dates
  dated-dates kind a b d v = rw h.date (dated-code d v)

  pub rule-falls : (x : Record) → record_ok x ≡ true → rule_shows c (rule_of x) (day_code f) ≡ falls c f x
  unfolding rule_of falls dated_falls weekly_falls by_date_falls by_position_falls yearly_falls
  rule-falls (Record.Dated d) e = shows-on c _ (day_code f) (on-dated c _ (day_code f) refl) ∙ dated-dates 1 0 0 d.date (valid_fits (record_facts (Record.Dated d) e).date)
  rule-falls (Record.Weekly w) e = repeat-shows _ _ _ w.repeat (record_facts (Record.Weekly w) e).1 (on-weekly c _ (day_code f) refl) ∙ rw h.weekday (b_eq _ _ true _ _ ∙ rw (is_true refl))
  rule-falls (Record.MonthlyByDate m) e = repeat-shows _ _ _ m.repeat (record_facts (Record.MonthlyByDate m) e).1 (on-by-date c _ (day_code f) refl ∙ day-shows m.day)
  rule-falls (Record.MonthlyByPosition m) e = repeat-shows _ _ _ m.repeat (record_facts (Record.MonthlyByPosition m) e).2 (on-by-position c _ (day_code f) refl) ∙ rw (h.weekday, h.day, let e : (f.date.day + 6) / 7 ≡ (f.date.day - 1) / 7 + 1 = omega (arith, k.first) in e) (b_eq _ _ _ _ _ ∙ rw (b_eq, is_true refl))
  rule-falls (Record.Yearly y) e = repeat-shows _ _ _ y.repeat (record_facts (Record.Yearly y) e).2 (on-yearly c _ (day_code f) refl ∙ rw (h.month, day-shows y.day)) ∙ b_eq _ _ _ _ _
  rule-falls (Record.ToDo t) e = shows-off c _ (day_code f) (on-other c _ (day_code f) (λ q. omega arith) (λ q. omega arith) (λ q. omega arith) (λ q. omega arith) (λ q. omega arith))
