-- A rule shows on no day before its wait is over.
-- Assumes nothing.
use Rattle.std.specs.Prelude.{◌≡◌, ℕ, ◌+◌, ◌-◌, ◌*◌, ◌/◌, ◌<◌, ◌≤◌, true, false, List, length, ◌≢◌, slice_index}
use Rattle.std.proofs.Math.Path.{refl}
use Rattle.std.proofs.Common.{sym, ◌∙◌, arith}
use Rattle.prelude.specs.Choice.{if_lt, if_eq}
use Rattle.prelude.proofs.Laws.Choice.{is_lt, is_ge, is_ne, eq_elim, lt_elim, bool_cases, is_true, is_false}
use Rattle.days.specs.Days.{last_day}
use Rattle.days.specs.Facts.{facts_of}
use Rattle.days.specs.declared.types.DayFacts.{DayFacts}
use Rattle.day_steps.specs.Codes.{day_code, date_in, month_in, day_in, weekday_in, month_length_in, Spanned, Known}
use Rattle.day_steps.proofs.Laws.Codes.{facts_known, Held, held_day}
use Rattle.day_steps.proofs.Laws.Months.{Later, in_month, in_length, later-code, code_less, weekday_later}
use Rattle.falls.specs.declared.types.ShortMonth.{ShortMonth}
use Rattle.occurrences.specs.Rules.{missing_shows, day_shows, on_date, in_dates, rule_shows, to_month, to_day, to_weekday, to_date, wait_for}
use Rattle.occurrences.proofs.Laws.Rules.{on-weekly, on-by-date, on-by-position, on-yearly, on-other, shows-off}
use Rattle.occurrences.specs.declared.types.Rule.{Rule}

-- a rule shows on no day outside its dates
pub shows_out : (c : ShortMonth) (r : Rule) (p : ℕ) → in_dates r p ≡ false → rule_shows c r p ≡ false
unfolding rule_shows
shows_out c r p e = rw e (bool_cases (on_date c r p) (λ t. rw t (is_true refl false false)) (λ t. rw t (is_false refl false false)))

pub in_dates-before_first : (r : Rule) (p : ℕ) → date_in p < r.first → in_dates r p ≡ false
unfolding in_dates
in_dates-before_first r p h = is_lt h _ _

pub in_dates-after_last : (r : Rule) (p : ℕ) → r.last < date_in p → in_dates r p ≡ false
unfolding in_dates
in_dates-after_last r p h = lt_elim (λ z. z ≡ false) (date_in p) r.first _ _ (λ _. refl) (λ _. is_lt h _ _)

-- every wait is a day or more
to_day_least : (p day : ℕ) → 1 ≤ to_day p day
unfolding to_day
to_day_least p day =
    lt_elim P (month_length_in p) day _ _ (λ _. lt_elim P (day_in p) (month_length_in p) _ _ (λ h. omega arith) (λ _. omega arith)) (λ _. lt_elim P (day_in p) day _ _ (λ h. omega arith) (λ _. omega arith))
  where
    P : ℕ → Type 0
    P w = 1 ≤ w

to_date_least : (p date : ℕ) → 1 ≤ to_date p date
unfolding to_date
to_date_least p date =
    lt_elim P (date_in p) date _ _ (λ h. lt_elim P (date - date_in p) (to_month p) _ _ (λ _. omega arith) (λ _. omega arith)) (λ _. omega arith)
  where
    P : ℕ → Type 0
    P w = 1 ≤ w

-- the rest of a month: codes p and q of days i days apart
record Rest (p q i : ℕ) : Type 0 where
  date : date_in q ≡ date_in p + i
  month : month_in q ≡ month_in p
  whole : q / 8192 ≡ p / 8192
  day : day_in q ≡ day_in p + i
  length : month_length_in q ≡ month_length_in p

whole_month : (q y m d : ℕ) → q / 256 ≡ (y * 16 + m) * 32 + d → d < 32 → q / 8192 ≡ y * 16 + m
whole_month q y m d e h = omega arith

rest_of : {f g : DayFacts} {p q i : ℕ} → Known f → Known g → Held f p → Held g q → Later f g i → Rest p q i
rest_of {f} {g} {p} {q} {i} kf kg hp hq m =
    record {
      date = omega (arith, hp.date, hq.date, m.year, m.month, m.day);
      month = hq.month ∙ m.month ∙ sym hp.month;
      whole = whole_month q _ _ _ hq.date kg.date.day ∙ rw (m.year, m.month) (sym (whole_month p _ _ _ hp.date kf.date.day));
      day = omega (arith, hp.day, hq.day, m.day);
      length = hq.length ∙ m.length ∙ sym hp.length;
    }

-- a day and the one i days later, as codes
module _ (n i : ℕ) (last : n + i ≤ last_day) where
  abbrev p : ℕ
  p = day_code (facts_of n)

  abbrev q : ℕ
  q = day_code (facts_of (n + i))

  hp : Held (facts_of n) p
  hp = held_day n (omega arith)

  hq : Held (facts_of (n + i)) q
  hq = held_day (n + i) last

  other-weekday : (a : ℕ) → 1 ≤ i → i < to_weekday p a → weekday_in q ≢ a
  other-weekday a one l e = let w = weekday_later n i in let a = hp.weekday in let b = hq.weekday in let k = (facts_known n (omega arith)).weekday in omega arith

  rest : i < to_month p → Rest p q i
  rest l =
      let k = facts_known n (omega arith) in
      let h = in_length n (omega arith) in
      rest_of k (facts_known (n + i) last) hp hq (in_month n i (omega (arith, l, h, hp.day, hp.length)))

  -- before a day of the month
  missing-not : (c : ShortMonth) → Rest p q i → day_in p + i < month_length_in p → missing_shows c q ≡ false
  unfolding missing_shows
  missing-not ShortMonth.Skip r h = refl
  missing-not ShortMonth.Last r h = is_ne (λ e. omega (arith, e, r.day, r.length, h)) _ _

  day-not : (c : ShortMonth) (day : ℕ) → 1 ≤ i → i < to_day p day → day_shows c q day ≡ false
  unfolding to_day day_shows
  day-not c day one =
      let inside = in_length n (omega arith) in
      let a = hp in
      lt_elim P (month_length_in p) day _ _
      (λ short. lt_elim P (day_in p) (month_length_in p) _ _
      (λ ahead. λ l. let r = rest (omega arith) in is_lt (rw r.length short) _ _ ∙ missing-not c r (omega arith))
      (λ at. λ l. absurd (omega arith)))
      (λ long. lt_elim P (day_in p) day _ _
      (λ ahead. λ l. let r = rest (omega arith) in is_ge (rw r.length long) _ _ ∙ is_ne (λ e. omega (arith, e, r.day, l, one)) _ _)
      (λ past. λ l. let r = rest l in is_ge (rw r.length long) _ _ ∙ is_ne (λ e. omega (arith, e, r.day, past, one)) _ _))
    where
      P : ℕ → Type 0
      P w = i < w → if_lt (month_length_in q) day (missing_shows c q) (if_eq (day_in q) day true false) ≡ false

  -- before a date
  date-not : (r : Rule) → 1 ≤ i → i < to_date p r.first → in_dates r q ≡ false
  unfolding to_date
  date-not r one =
      lt_elim P (date_in p) r.first _ _
      (λ ahead. lt_elim P (r.first - date_in p) (to_month p) _ _
      (λ near. λ l. in_dates-before_first r q (omega (arith, (rest (omega arith)).date)))
      (λ far. λ l. in_dates-before_first r q (omega (arith, (rest l).date))))
      (λ past. λ l. absurd (omega arith))
    where
      P : ℕ → Type 0
      P w = i < w → in_dates r q ≡ false

  -- after the last date
  pub date-past : (r : Rule) → r.last < date_in p → in_dates r q ≡ false
  date-past r h = in_dates-after_last r q (omega (arith, h, hp.date, hq.date, later-code n i last))

  pub date-gone : (r : Rule) → 1 ≤ i → r.last ≤ date_in p → in_dates r q ≡ false
  date-gone r one h = in_dates-after_last r q (omega (arith, h, hp.date, hq.date, code_less n (n + i) (omega arith) last))

  pub wait-not : (c : ShortMonth) (r : Rule) → 1 ≤ i → i < wait_for r p → rule_shows c r q ≡ false
  unfolding wait_for
  wait-not c r one =
      lt_elim P (date_in p) r.last _ _
      (λ _. eq_elim P r.kind 2 _ _ (λ e. λ l. shows-off c r q (on-weekly c r q e ∙ is_ne (other-weekday r.a one l) _ _))
      (λ n2. eq_elim P r.kind 1 _ _ (λ e. λ l. shows_out c r q (date-not r one l))
      (λ n1. eq_elim P r.kind 3 _ _ (λ e. λ l. shows-off c r q (on-by-date c r q e ∙ day-not c r.a one l))
      (λ n3. eq_elim P r.kind 4 _ _ (λ e. λ l. shows-off c r q (on-by-position c r q e ∙ is_ne (other-weekday r.a one l) _ _))
      (λ n4. eq_elim P r.kind 5 _ _ (λ e. λ l. shows-off c r q (on-yearly c r q e ∙ in-year e l))
      (λ n5. λ _. shows-off c r q (on-other c r q n1 n2 n3 n4 n5)))))))
      (λ h. λ _. shows_out c r q (date-gone r one h))
    where
      P : ℕ → Type 0
      P w = i < w → rule_shows c r q ≡ false

      in-year : r.kind ≡ 5 → i < if_eq (month_in p) r.a (to_day p r.b) (to_month p) → if_eq (month_in q) r.a (day_shows c q r.b) false ≡ false
      in-year e =
          eq_elim (λ w. i < w → if_eq (month_in q) r.a (day_shows c q r.b) false ≡ false) (month_in p) r.a _ _
          (λ _. λ l. eq_elim (λ z. z ≡ false) (month_in q) r.a _ _ (λ _. day-not c r.b one l) (λ _. refl))
          (λ x. λ l. is_ne (λ y. x (sym (rest l).month ∙ y)) _ _)

-- waits are from 1 to 366 days
pub wait_least : (r : Rule) (p : ℕ) → 1 ≤ wait_for r p
unfolding wait_for
wait_least r p =
    lt_elim P (date_in p) r.last _ _
    (λ _. eq_elim P r.kind 2 _ _ (λ _. omega arith)
    (λ _. eq_elim P r.kind 1 _ _ (λ _. to_date_least p r.first)
    (λ _. eq_elim P r.kind 3 _ _ (λ _. to_day_least p r.a)
    (λ _. eq_elim P r.kind 4 _ _ (λ _. omega arith)
    (λ _. eq_elim P r.kind 5 _ _ (λ _. eq_elim P (month_in p) r.a _ _ (λ _. to_day_least p r.b) (λ _. omega arith)) (λ _. omega arith))))))
    (λ _. omega arith)
  where
    P : ℕ → Type 0
    P w = 1 ≤ w

-- dates rise along codes in a row
pub spanned_less : {first : ℕ} {days : List ℕ} → Spanned first days → (j k : ℕ) → j < k → k < length days → date_in (slice_index days j) < date_in (slice_index days k)
spanned_less {first} {days} s j k less inside =
    let a = (held_day (first + j) (omega (arith, s.end))).date in
    let b = (held_day (first + k) (omega (arith, s.end))).date in
    rw (s.each j (omega arith), s.each k inside) (omega (arith, a, b, code_less (first + j) (first + k) (omega arith) (omega (arith, s.end))))

-- the waits of codes in a row
pub spanned_not : {first : ℕ} {days : List ℕ} → Spanned first days → (c : ShortMonth) (r : Rule) (j k : ℕ) → j < k → k < length days → k < j + wait_for r (slice_index days j) → rule_shows c r (slice_index days k) ≡ false
spanned_not {first} {days} s c r j k less inside wait =
    let e : first + k ≡ first + j + (k - j) = omega arith in
    rw (s.each k inside, e) (wait-not (first + j) (k - j) (omega (arith, s.end)) c r (omega arith) (rw (s.each j (omega arith)) at (let l : k - j < wait_for r (slice_index days j) = omega arith in l)))
