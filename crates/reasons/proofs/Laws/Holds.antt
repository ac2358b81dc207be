-- Document 02, R-8: the reason given is the first that holds, and so it is true.
-- Assumes nothing.
use Rattle.std.specs.Prelude.{ℕ, ◌≤◌, ◌≡◌, refl, Bool, true, false}
use Rattle.std.proofs.Common.{sym, ◌∙◌, arith}
use Rattle.std.proofs.Math.Bool.{true≢false}
use mathlib.Core.List.{List, [], ◌∷◌}
use Rattle.std.proofs.Math.Logic.{inl, inr}
use Rattle.prelude.specs.Choice.{if_b}
use Rattle.prelude.proofs.Laws.Choice.{is_ge, is_eq, is_true, is_false, b_elim, lt_skip}
use Rattle.days.specs.Dates.{before}
use Rattle.days.specs.declared.types.Date.{Date}
use Rattle.days.specs.declared.types.DayFacts.{DayFacts}
use Rattle.records.specs.declared.types.Repeat.{Repeat}
use Rattle.records.specs.declared.types.Record.{Record}
use Rattle.falls.specs.Falls.{dated_falls, in_span, weekly_falls, by_position_falls, on_day, by_date_falls, yearly_falls, falls}
use Rattle.falls.specs.Moved.{falling, OnNamedDay, NamesMissing, Says}
use Rattle.falls.proofs.Laws.Moved.{falling_says}
use Rattle.falls.specs.declared.types.Falling.{Falling}
use Rattle.falls.specs.declared.types.ShortMonth.{ShortMonth}
use Rattle.reasons.specs.Holds.{Holds, in_order, First}
use Rattle.reasons.proofs.Laws.Tests.{earlier_yes, earlier_no, later_yes, later_no, other_yes, other_no, same_by, short_yes, short_no}
use Rattle.reasons.specs.Reasons.{first_date, last_date, own_month, own_day, own_weekday, own_week, is_earlier, is_later, is_other, is_to_do, absent_for, or_else, reason_of}
use Rattle.reasons.specs.declared.types.Reason.{Reason}

-- a day inside a span
both_span : (f : DayFacts) (p : Repeat) → before f.date p.first ≡ false → before p.last f.date ≡ false → in_span f p ≡ true
unfolding in_span
both_span f p a b = is_false a _ _ ∙ is_false b _ _

-- dates neither of which is before the other
same-dates : (a b : Date) → before a b ≡ false → before b a ≡ false → (a.year ≡ b.year) × (a.month ≡ b.month) × (a.day ≡ b.day)
unfolding before
same-dates a b h k =
    let y1 = lt_skip a.year b.year _ _ true≢false h in
    let y2 = lt_skip b.year a.year _ _ true≢false k in
    let m1 = lt_skip a.month b.month _ _ true≢false (sym (is_ge y2.0 _ _) ∙ y1.1) in
    let m2 = lt_skip b.month a.month _ _ true≢false (sym (is_ge y1.0 _ _) ∙ y2.1) in
    let d1 = lt_skip a.day b.day _ _ true≢false (sym (is_ge m2.0 _ _) ∙ m1.1) in
    let d2 = lt_skip b.day a.day _ _ true≢false (sym (is_ge m1.0 _ _) ∙ m2.1) in
    (omega (arith, y1.0, y2.0), omega (arith, m1.0, m2.0), omega (arith, d1.0, d2.0))

on_own : (c : ShortMonth) (f : DayFacts) (day : ℕ) → f.date.day ≤ f.length → f.date.day ≡ day → on_day c f day ≡ true
unfolding on_day
on_own c f day l e = is_ge (omega arith) _ _ ∙ is_eq e _ _

-- where nothing else speaks against a record that does not fall, the week does
module _ (c : ShortMonth) (f : DayFacts) (l : f.date.day ≤ f.length) where
  week-left :
      (r : Record) → falls c f r ≡ false → is_to_do r ≡ false → is_earlier f.date (first_date r) ≡ false → is_later f.date (last_date r) ≡ false
      → is_other f.date.month (own_month r) ≡ false → is_other f.date.day (own_day r) ≡ false → is_other f.weekday (own_weekday r) ≡ false
      → Holds c f r Reason.WrongWeek
  unfolding falls dated_falls weekly_falls by_position_falls by_date_falls yearly_falls is_to_do first_date last_date own_month own_day own_weekday own_week is_earlier is_later is_other
  week-left (Record.Dated d) t o a b m y w =
      let e = same-dates f.date d.date a b in
      absurd (true≢false (sym (is_eq e.2 _ _ ∙ is_eq e.1 _ _ ∙ is_eq e.0 _ _) ∙ t))
  week-left (Record.Weekly x) t o a b m y w =
      absurd (true≢false (sym (is_eq (same_by _ _ w) _ _ ∙ both_span f x.repeat a b) ∙ t))
  week-left (Record.MonthlyByDate x) t o a b m y w =
      absurd (true≢false (sym (is_true (on_own c f x.day l (same_by _ _ y)) _ _ ∙ both_span f x.repeat a b) ∙ t))
  week-left (Record.MonthlyByPosition x) t o a b m y w =
      λ e. true≢false (sym (is_eq (same_by _ _ w) _ _ ∙ is_eq e _ _ ∙ both_span f x.repeat a b) ∙ t)
  week-left (Record.Yearly x) t o a b m y w =
      absurd (true≢false (sym (is_eq (same_by _ _ m) _ _ ∙ is_true (on_own c f x.day l (same_by _ _ y)) _ _ ∙ both_span f x.repeat a b) ∙ t))
  week-left (Record.ToDo x) t o a b m y w = absurd (true≢false o)

  -- the named day is this one, or it is missing
  not-both : (r : Record) → OnNamedDay f r → NamesMissing f r → ⊥
  not-both (Record.Dated d) e z = z
  not-both (Record.Weekly w) e z = z
  not-both (Record.MonthlyByDate m) e z = omega arith
  not-both (Record.MonthlyByPosition m) e z = z
  not-both (Record.Yearly y) e z = omega arith
  not-both (Record.ToDo t) e z = z

-- the order from a reason on
abbrev from_weekday : List Reason
from_weekday = Reason.WrongWeekday ∷ Reason.WrongWeek ∷ []

abbrev from_day : List Reason
from_day = Reason.WrongDay ∷ from_weekday

abbrev from_short : List Reason
from_short = Reason.MonthTooShort ∷ from_day

abbrev from_month : List Reason
from_month = Reason.WrongMonth ∷ from_short

abbrev from_end : List Reason
from_end = Reason.AfterEnd ∷ from_month

abbrev from_start : List Reason
from_start = Reason.BeforeStart ∷ from_end

abbrev from_to_do : List Reason
from_to_do = Reason.IsToDo ∷ from_start

module _ (c : ShortMonth) (f : DayFacts) (l : f.date.day ≤ f.length) (r : Record) where
  abbrev FirstOf : List Reason → Reason → Type 0
  FirstOf xs q = First (Holds c f r) q xs

  first-here : (x : Reason) (xs : List Reason) → Holds c f r x → FirstOf (x ∷ xs) x
  first-here x xs h = inl (refl, h)

  -- a test that stands for the reason x, with y the first of the others
  first_step :
      (b : Bool) (x y : Reason) (xs : List Reason) → (b ≡ true → Holds c f r x) → (b ≡ false → Holds c f r x → ⊥) → (b ≡ false → FirstOf xs y)
      → FirstOf (x ∷ xs) (if_b b x y)
  first_step b x y xs passed failed rest =
      b_elim (FirstOf (x ∷ xs)) b x y (λ h. first-here x xs (passed h)) (λ h. inr (failed h, rest h))

  absent-first : falls c f r ≡ false → FirstOf from_to_do (absent_for c f r)
  unfolding absent_for
  absent-first t =
      first_step (is_to_do r) Reason.IsToDo _ from_start (λ h. h) (λ o z. true≢false (sym z ∙ o))
      (λ o. first_step _ Reason.BeforeStart _ from_end (earlier_yes _ _) (earlier_no _ _)
      (λ a. first_step _ Reason.AfterEnd _ from_month (later_yes _ _) (later_no _ _)
      (λ b. first_step _ Reason.WrongMonth _ from_short (other_yes _ _) (other_no _ _)
      (λ m. first_step _ Reason.MonthTooShort _ from_day (short_yes c f r) (short_no c f r)
      (λ _. first_step _ Reason.WrongDay _ from_weekday (other_yes _ _) (other_no _ _)
      (λ y. first_step _ Reason.WrongWeekday _ (Reason.WrongWeek ∷ []) (other_yes _ _) (other_no _ _)
      (λ w. first-here Reason.WrongWeek [] (week-left c f l r t o a b m y w))))))))

  falling-first : (z : Falling) → Says c f r z → FirstOf in_order (or_else z (absent_for c f r))
  unfolding or_else
  falling-first Falling.No t = inr (λ h. true≢false (sym h.0 ∙ t), inr (λ h. true≢false (sym h.0 ∙ t), absent-first t))
  falling-first Falling.Own s = inl (refl, s)
  falling-first Falling.Moved s = inr (λ h. not-both c f l r h.1 s.3, inl (refl, s))

  -- "the first that holds"
  pub reason-first : First (Holds c f r) (reason_of c f r) in_order
  unfolding reason_of
  reason-first = falling-first (falling c f r) (falling_says c f r)

first_holds : (H : Reason → Type 0) (q : Reason) (xs : List Reason) → First H q xs → H q
first_holds H q [] z = absurd z
first_holds H q (x ∷ xs) (inl h) = h.1
first_holds H q (x ∷ xs) (inr h) = first_holds H q xs h.1

-- "each reason given is true"
pub each-true : (c : ShortMonth) (f : DayFacts) → f.date.day ≤ f.length → (r : Record) → Holds c f r (reason_of c f r)
each-true c f l r = first_holds (Holds c f r) (reason_of c f r) in_order (reason-first c f l r)
