-- Laws of moving a day's facts on: to a later day of its month, and to a date.
-- Assumes nothing.
use Rattle.std.specs.Prelude.{ℕ, ◌+◌, ◌%◌, ◌<◌, ◌≤◌, ◌≡◌, refl}
use Rattle.std.proofs.Common.{sym, ◌∙◌, ap, arith}
use Rattle.prelude.proofs.Laws.Choice.{lt_elim, b_elim}
use Rattle.days.specs.Days.{last_day, date_of, weekday_of, day_number}
use Rattle.days.specs.Facts.{facts_with, facts_of}
use Rattle.days.specs.Dates.{RealDate, real}
use Rattle.days.proofs.Laws.Dates.{valid_facts}
use Rattle.days.proofs.Laws.Days.{date_number_lem, number_bound}
use Rattle.days.specs.declared.types.Date.{Date}
use Rattle.days.specs.declared.types.DayFacts.{DayFacts}
use Rattle.day_steps.specs.Codes.{date_code, Known}
use Rattle.day_steps.proofs.Laws.Codes.{facts_known}
use Rattle.day_steps.proofs.Laws.Months.{Later, in_month, in_length, weekday_later, code_less}
use Rattle.day_steps.specs.Moves.{FactsAt, moved_to}

-- the day of a day's facts
pub facts_of-day_number : (n : ℕ) → (facts_of n).day.0 ≡ n
unfolding facts_of
facts_of-day_number n = refl

pub day_of-facts : {g : DayFacts} {n : ℕ} → g ≡ facts_of n → g.day.0 ≡ n
day_of-facts {g} {n} e = ap (λ (x : DayFacts). x.day.0) e ∙ facts_of-day_number n

pub facts_at_day : {g : DayFacts} (n : ℕ) {m : ℕ} → g ≡ facts_of n → m ≤ last_day → FactsAt g m
facts_at_day n e h = record { facts = e ∙ ap facts_of (sym (day_of-facts e)); high = h }

-- such facts have room in a code, and their day lies in its month
pub facts_at_known : {f : DayFacts} {n : ℕ} → FactsAt f n → f.day.0 ≤ n → Known f
facts_at_known {f} {n} a l = let h = a.high in rw (sym a.facts) at (facts_known f.day.0 (omega arith))

pub facts_at_day_of-month : {f : DayFacts} {n : ℕ} → FactsAt f n → f.day.0 ≤ n → f.date.day ≤ f.length
facts_at_day_of-month {f} {n} a l = let h = a.high in rw (sym a.facts) at (in_length f.day.0 (omega arith))

-- k days on in the same month
abbrev pub on_by : ℕ → DayFacts → DayFacts
on_by k f =
    record {
      day = record { 0 = f.day.0 + k };
      date = record { year = f.date.year; month = f.date.month; day = f.date.day + k };
      weekday = (f.weekday + 6 + k) % 7 + 1;
      length = f.length;
    }

alike : {f g : DayFacts} → f.day.0 ≡ g.day.0 → f.date.year ≡ g.date.year → f.date.month ≡ g.date.month → f.date.day ≡ g.date.day → f.weekday ≡ g.weekday → f.length ≡ g.length → f ≡ g
alike n y m d w l = λ i. record { day = record { 0 = n i }; date = record { year = y i; month = m i; day = d i }; weekday = w i; length = l i }

pub facts_by : (n k : ℕ) → (facts_of n).date.day + k ≤ (facts_of n).length → on_by k (facts_of n) ≡ facts_of (n + k)
facts_by n k h =
    let l : Later (facts_of n) (facts_of (n + k)) k = in_month n k h in
    alike (ap (λ (m : ℕ). m + k) (facts_of-day_number n) ∙ sym (facts_of-day_number (n + k))) (sym l.year) (sym l.month) (sym l.day) (sym (weekday_later n k)) (sym l.length)

pub on_by-facts : {f : DayFacts} (k : ℕ) → f ≡ facts_of f.day.0 → f.date.day + k ≤ f.length → on_by k f ≡ facts_of (f.day.0 + k)
on_by-facts {f} k e h =
    let d = ap (λ (x : DayFacts). x.date.day) e in
    let l = ap (λ (x : DayFacts). x.length) e in
    ap (on_by k) e ∙ facts_by f.day.0 k (omega arith)

-- the facts of a real date's day
pub facts-on : {d : Date} {n : ℕ} → RealDate d → day_number d ≡ n → facts_with n d (weekday_of n) ≡ facts_of n
unfolding facts_of
facts-on {d} {n} v e =
    ap (λ (x : Date). facts_with n x (weekday_of n)) (sym (ap date_of (sym e) ∙ date_number_lem v))

date-on : {d : Date} {n : ℕ} → RealDate d → day_number d ≡ n → (facts_of n).date ≡ d
date-on v e = ap (λ (x : DayFacts). x.date) (sym (facts-on v e))

-- g are the facts of a day from that of f on, and all days passed over have dates before a code
pub record Reaches (f : DayFacts) (code : ℕ) (g : DayFacts) : Type 0 where
  pub at : FactsAt g g.day.0
  pub low : f.day.0 ≤ g.day.0
  pub before : (d : ℕ) → f.day.0 ≤ d → d < g.day.0 → date_code (facts_of d).date < code

reaches_day : {f g : DayFacts} {d : Date} {n : ℕ} → RealDate d → day_number d ≡ n → f.day.0 < n → g ≡ facts_of n → Reaches f (date_code d) g
reaches_day {f} {g} {d} {n} v e l q =
    let b = number_bound v in
    let e' : g.day.0 ≡ n = day_of-facts q in
    record {
      at = facts_at_day n q (omega arith);
      low = omega arith;
      before = λ m h i. rw (ap date_code (date-on v e)) at (code_less m n (omega arith) (omega arith));
    }

pub reaches_most : {f g : DayFacts} {a b : ℕ} → a ≤ b → Reaches f a g → Reaches f b g
reaches_most h r = record { at = r.at; low = r.low; before = λ d l m. omega (arith, r.before d l m) }

pub reaches_same : {f : DayFacts} (code : ℕ) → FactsAt f f.day.0 → Reaches f code f
reaches_same code a = record { at = a; low = omega arith; before = λ d l m. absurd (omega arith) }

pub moved_reaches : {f : DayFacts} (d : Date) → FactsAt f f.day.0 → Reaches f (date_code d) (moved_to f d)
unfolding moved_to
moved_reaches {f} d a =
    b_elim P (real d) _ _
    (λ e. lt_elim P f.day.0 (day_number d) _ _ (λ h. reaches_day (valid_facts e) refl h refl) (λ _. reaches_same (date_code d) a))
    (λ _. reaches_same (date_code d) a)
  where
    P : DayFacts → Type 0
    P g = Reaches f (date_code d) g
