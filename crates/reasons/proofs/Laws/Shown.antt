-- Where a record shows, none of the eight other reasons holds, but for the day of the month of one that was moved.
-- Assumes nothing.
use Rattle.std.specs.Prelude.{◌≡◌, refl, true, false}
use Rattle.std.proofs.Common.{sym, ◌∙◌, true≢false, arith}
use Rattle.std.proofs.lemmas.Bool.{false≢true}
use Rattle.prelude.proofs.Laws.Choice.{constructors_differ, is_ge, is_eq, is_true, is_false, bool_cases, eq_take, b_take, b_skip}
use Rattle.days.specs.Dates.{before}
use Rattle.days.specs.declared.types.Date.{Date}
use Rattle.days.specs.declared.types.DayFacts.{DayFacts}
use Rattle.records.specs.declared.types.Repeat.{Repeat}
use Rattle.records.specs.declared.types.Record.{Record}
use Rattle.falls.specs.Falls.{dated_falls, in_span, weekly_falls, week_of_month, by_position_falls, on_day, by_date_falls, yearly_falls, falls}
use Rattle.falls.specs.Moved.{day_missing, falling, OnNamedDay, Says}
use Rattle.falls.proofs.Laws.Moved.{falling_says, falling_missing, names_missing}
use Rattle.falls.specs.declared.types.Falling.{Falling}
use Rattle.falls.specs.declared.types.ShortMonth.{ShortMonth}
use Rattle.reasons.specs.Holds.{Holds}
use Rattle.reasons.proofs.Laws.Tests.{earlier_no, later_no, other_no}
use Rattle.reasons.specs.Reasons.{first_date, last_date, own_month, own_day, own_weekday, own_week, is_earlier, is_later, is_other, is_to_do, says_shown}
use Rattle.reasons.specs.declared.types.Reason.{Reason}

-- what the tests say of a record that shows
record Fits (f : DayFacts) (r : Record) : Type 0 where
  kind : is_to_do r ≡ false
  begun : is_earlier f.date (first_date r) ≡ false
  lasting : is_later f.date (last_date r) ≡ false
  month : is_other f.date.month (own_month r) ≡ false
  weekday : is_other f.weekday (own_weekday r) ≡ false
  week : is_other (week_of_month f) (own_week r) ≡ false

in_both : (f : DayFacts) (p : Repeat) → in_span f p ≡ true → (before f.date p.first ≡ false) × (before p.last f.date ≡ false)
unfolding in_span
in_both f p h =
    let a = b_skip (before f.date p.first) _ _ false≢true h in (a.0, (b_skip (before p.last f.date) _ _ false≢true a.1).0)

not_before : (a b : Date) → a.year ≡ b.year → a.month ≡ b.month → a.day ≡ b.day → before a b ≡ false
unfolding before
not_before a b y m d =
    is_ge (omega arith) _ _ ∙ is_ge (omega arith) _ _ ∙ is_ge (omega arith) _ _ ∙ is_ge (omega arith) _ _ ∙ is_ge (omega arith) _ _

shown_fits : (c : ShortMonth) (f : DayFacts) (r : Record) → falls c f r ≡ true → Fits f r
unfolding falls dated_falls weekly_falls by_position_falls by_date_falls yearly_falls is_to_do first_date last_date own_month own_weekday own_week is_earlier is_later is_other
shown_fits c f (Record.Dated d) t =
    let a = eq_take f.date.day d.date.day _ _ false≢true t in
    let b = eq_take f.date.month d.date.month _ _ false≢true a.1 in
    let y = eq_take f.date.year d.date.year _ _ false≢true b.1 in
    record {
      kind = refl;
      begun = not_before f.date d.date y.0 b.0 a.0;
      lasting = not_before d.date f.date (sym y.0) (sym b.0) (sym a.0);
      month = refl;
      weekday = refl;
      week = refl;
    }
shown_fits c f (Record.Weekly w) t =
    let e = eq_take f.weekday w.weekday _ _ false≢true t in
    let s = in_both f w.repeat e.1 in
    record { kind = refl; begun = s.0; lasting = s.1; month = refl; weekday = is_eq e.0 _ _; week = refl }
shown_fits c f (Record.MonthlyByDate m) t =
    let s = in_both f m.repeat (b_take (on_day c f m.day) _ _ false≢true t).1 in
    record { kind = refl; begun = s.0; lasting = s.1; month = refl; weekday = refl; week = refl }
shown_fits c f (Record.MonthlyByPosition m) t =
    let e = eq_take f.weekday m.weekday _ _ false≢true t in
    let w = eq_take (week_of_month f) m.week _ _ false≢true e.1 in
    let s = in_both f m.repeat w.1 in
    record { kind = refl; begun = s.0; lasting = s.1; month = refl; weekday = is_eq e.0 _ _; week = is_eq w.0 _ _ }
shown_fits c f (Record.Yearly y) t =
    let e = eq_take f.date.month y.month _ _ false≢true t in
    let s = in_both f y.repeat (b_take (on_day c f y.day) _ _ false≢true e.1).1 in
    record { kind = refl; begun = s.0; lasting = s.1; month = is_eq e.0 _ _; weekday = refl; week = refl }
shown_fits c f (Record.ToDo x) t = absurd (false≢true t)

on_day_lem : (f : DayFacts) (r : Record) → OnNamedDay f r → is_other f.date.day (own_day r) ≡ false
unfolding is_other own_day
on_day_lem f (Record.Dated d) e = refl
on_day_lem f (Record.Weekly w) e = refl
on_day_lem f (Record.MonthlyByDate m) e = is_eq e _ _
on_day_lem f (Record.MonthlyByPosition m) e = refl
on_day_lem f (Record.Yearly y) e = is_eq e _ _
on_day_lem f (Record.ToDo t) e = refl

module _ (c : ShortMonth) (f : DayFacts) (r : Record) (t : falls c f r ≡ true) where
  says-moved : day_missing f r ≡ true → (falling c f r ≡ Falling.Moved) × Says c f r Falling.Moved
  says-moved m = let e = falling_missing c f r t ∙ is_true m _ _ in (e, rw e at (falling_says c f r))

  says-own : day_missing f r ≡ false → Says c f r Falling.Own
  says-own m = rw (falling_missing c f r t ∙ is_false m _ _) at (falling_says c f r)

  last-not-skip : c ≡ ShortMonth.Last → c ≡ ShortMonth.Skip → ⊥
  last-not-skip a b = constructors_differ cc

  pub shown-against : (q : Reason) → says_shown q ≡ false → Holds c f r q → (q ≡ Reason.WrongDay) × (falling c f r ≡ Falling.Moved)
  unfolding says_shown
  shown-against Reason.OwnDay s h = absurd (true≢false s)
  shown-against Reason.Moved s h = absurd (true≢false s)
  shown-against Reason.IsToDo s h = absurd (true≢false (sym h ∙ (shown_fits c f r t).kind))
  shown-against Reason.BeforeStart s h = absurd (earlier_no _ _ (shown_fits c f r t).begun h)
  shown-against Reason.AfterEnd s h = absurd (later_no _ _ (shown_fits c f r t).lasting h)
  shown-against Reason.WrongMonth s h = absurd (other_no _ _ (shown_fits c f r t).month h)
  shown-against Reason.MonthTooShort s h = absurd (last-not-skip (says-moved (names_missing f r h.2)).1.1 h.0)
  shown-against Reason.WrongDay s h =
      bool_cases (day_missing f r) (λ m. (refl, (says-moved m).0)) (λ m. absurd (other_no _ _ (on_day_lem f r (says-own m).1) h))
  shown-against Reason.WrongWeekday s h = absurd (other_no _ _ (shown_fits c f r t).weekday h)
  shown-against Reason.WrongWeek s h = absurd (other_no _ _ (shown_fits c f r t).week h)
