-- The reasons by kind and over the type number, as a reader of bytes meets it.
-- Assumes nothing.
use Rattle.std.specs.Prelude.{ℕ, ◌≡◌, true, false, List}
use Rattle.std.proofs.Math.Path.{refl, sym, ap}
use Rattle.std.proofs.Common.{◌∙◌, arith}
use Rattle.prelude.specs.Choice.{if_eq, if_b}
use Rattle.prelude.proofs.Laws.Choice.{is_ge, is_eq, is_ne, is_true, is_false, eq_elim}
use Rattle.days.specs.declared.types.DayFacts.{DayFacts}
use Rattle.records.specs.Fields.{dated_of, weekly_of, monthly_by_date_of, monthly_by_position_of, yearly_of, to_do_of, record_of}
use Rattle.records.specs.declared.types.Dated.{Dated}
use Rattle.records.specs.declared.types.Weekly.{Weekly}
use Rattle.records.specs.declared.types.MonthlyByDate.{MonthlyByDate}
use Rattle.records.specs.declared.types.MonthlyByPosition.{MonthlyByPosition}
use Rattle.records.specs.declared.types.Yearly.{Yearly}
use Rattle.records.specs.declared.types.ToDo.{ToDo}
use Rattle.records.specs.declared.types.Record.{Record}
use Rattle.falls.specs.Moved.{named_day, day_missing, falling}
use Rattle.falls.proofs.Laws.Falls.{by_type}
use Rattle.falls.proofs.Laws.Tests.{choices}
use Rattle.falls.specs.declared.types.Falling.{Falling}
use Rattle.falls.specs.declared.types.ShortMonth.{ShortMonth}
use Rattle.reasons.specs.Kinds.{outside_or, weekday_reason, ends_before, too_short, day_reason, month_reason}
use Rattle.reasons.specs.Reasons.{first_date, last_date, own_month, own_day, own_weekday, is_earlier, is_later, is_other, is_to_do, is_too_short, absent_for, or_else, reason_of}
use Rattle.reasons.specs.declared.types.Reason.{Reason}

-- a choice by "n is another than m" is one by equality
other_choice : {X : Type 0} (a b : ℕ) (x y : X) → if_b (if_eq a b false true) x y ≡ if_eq a b y x
other_choice a b x y =
    eq_elim (λ z. if_b z x y ≡ if_eq a b y x) a b false true
    (λ e. is_false refl _ _ ∙ sym (is_eq e _ _)) (λ n. is_true refl _ _ ∙ sym (is_ne n _ _))

-- a month that has the day, or of which none is wanted, is not too short
unmissed : (c : ShortMonth) (f : DayFacts) (r : Record) → day_missing f r ≡ false → is_too_short c f r ≡ false
unfolding is_too_short
unmissed ShortMonth.Skip f r h = eq_elim (λ z. z ≡ false) f.date.day f.length _ _ (λ _. h) (λ _. refl)
unmissed ShortMonth.Last f r h = refl

short_day : (c : ShortMonth) (f : DayFacts) (r : Record) → is_too_short c f r ≡ too_short c f (named_day r)
unfolding is_too_short ends_before too_short day_missing
short_day ShortMonth.Skip f r = refl
short_day ShortMonth.Last f r = refl

module _ (c : ShortMonth) (f : DayFacts) where
  abbrev unnamed : (r : Record) → named_day r ≡ 0 → is_too_short c f r ≡ false
  unfolding day_missing
  unnamed r e = unmissed c f r (is_ge (omega arith) _ _)

  absent-dated : (d : Dated) → absent_for c f (Record.Dated d) ≡ outside_or f d.date d.date Reason.WrongWeek
  unfolding absent_for outside_or is_to_do first_date last_date own_month own_day own_weekday is_earlier is_later is_other named_day if_b
  absent-dated d = rw (unnamed (Record.Dated d) refl) refl

  absent-weekly : (w : Weekly) → absent_for c f (Record.Weekly w) ≡ outside_or f w.repeat.first w.repeat.last (weekday_reason f w.weekday)
  unfolding absent_for outside_or weekday_reason is_to_do first_date last_date own_month own_day own_weekday is_earlier is_later is_other named_day if_b
  absent-weekly w =
      ap (outside_or f w.repeat.first w.repeat.last) (is_false (unnamed (Record.Weekly w) refl) _ _ ∙ other_choice f.weekday w.weekday _ _)

  -- the day of the month, of the two kinds that name one
  short-or :
      (r : Record) (day : ℕ) → named_day r ≡ day
      → if_b (is_too_short c f r) Reason.MonthTooShort (if_b (if_eq f.date.day day false true) Reason.WrongDay Reason.WrongWeek) ≡ day_reason c f day
  unfolding day_reason
  short-or r day e = rw (short_day c f r, e, other_choice) refl

  absent-by-date : (m : MonthlyByDate) → absent_for c f (Record.MonthlyByDate m) ≡ outside_or f m.repeat.first m.repeat.last (day_reason c f m.day)
  unfolding absent_for outside_or is_to_do first_date last_date own_month own_day own_weekday is_earlier is_later is_other named_day if_b
  absent-by-date m = ap (outside_or f m.repeat.first m.repeat.last) (short-or (Record.MonthlyByDate m) m.day refl)

  absent-by-position : (m : MonthlyByPosition) → absent_for c f (Record.MonthlyByPosition m) ≡ outside_or f m.repeat.first m.repeat.last (weekday_reason f m.weekday)
  unfolding absent_for outside_or weekday_reason is_to_do first_date last_date own_month own_day own_weekday is_earlier is_later is_other named_day if_b
  absent-by-position m =
      ap (outside_or f m.repeat.first m.repeat.last) (is_false (unnamed (Record.MonthlyByPosition m) refl) _ _ ∙ other_choice f.weekday m.weekday _ _)

  absent-yearly : (y : Yearly) → absent_for c f (Record.Yearly y) ≡ outside_or f y.repeat.first y.repeat.last (month_reason c f y.month y.day)
  unfolding absent_for outside_or month_reason is_to_do first_date last_date own_month own_day own_weekday is_earlier is_later is_other named_day if_b
  absent-yearly y =
      ap (outside_or f y.repeat.first y.repeat.last)
      (other_choice f.date.month y.month _ _ ∙ ap (λ (z : Reason). if_eq f.date.month y.month z Reason.WrongMonth) (short-or (Record.Yearly y) y.day refl))

  absent-to-do : (t : ToDo) → absent_for c f (Record.ToDo t) ≡ Reason.IsToDo
  unfolding absent_for is_to_do
  absent-to-do t = is_true refl _ _

  pub absent-type :
      (t : ℕ) (p : List ℕ)
      → absent_for c f (record_of t p) ≡ if_eq t 1 (outside_or f (dated_of p).date (dated_of p).date Reason.WrongWeek) (if_eq t 2 (outside_or f (weekly_of p).repeat.first (weekly_of p).repeat.last (weekday_reason f (weekly_of p).weekday)) (if_eq t 3 (outside_or f (monthly_by_date_of p).repeat.first (monthly_by_date_of p).repeat.last (day_reason c f (monthly_by_date_of p).day)) (if_eq t 4 (outside_or f (monthly_by_position_of p).repeat.first (monthly_by_position_of p).repeat.last (weekday_reason f (monthly_by_position_of p).weekday)) (if_eq t 5 (outside_or f (yearly_of p).repeat.first (yearly_of p).repeat.last (month_reason c f (yearly_of p).month (yearly_of p).day)) Reason.IsToDo))))
  absent-type t p =
      rw (absent-dated (dated_of p), absent-weekly (weekly_of p), absent-by-date (monthly_by_date_of p), absent-by-position (monthly_by_position_of p), absent-yearly (yearly_of p), absent-to-do (to_do_of p)) at (by_type (absent_for c f) t p)

pub ruleset absent_by_type = (absent-type, choices)

-- what falls on the day says its reason, else the tests do
module _ (c : ShortMonth) (f : DayFacts) (r : Record) where
  pub reason-own : falling c f r ≡ Falling.Own → Reason.OwnDay ≡ reason_of c f r
  unfolding reason_of or_else
  reason-own e = sym (ap (λ (z : Falling). or_else z (absent_for c f r)) e)

  pub reason-moved : falling c f r ≡ Falling.Moved → Reason.Moved ≡ reason_of c f r
  unfolding reason_of or_else
  reason-moved e = sym (ap (λ (z : Falling). or_else z (absent_for c f r)) e)

  pub reason-absent : falling c f r ≡ Falling.No → absent_for c f r ≡ reason_of c f r
  unfolding reason_of or_else
  reason-absent e = sym (ap (λ (z : Falling). or_else z (absent_for c f r)) e)
