-- The days after a day: within its month only the day of the month grows, in the next one it begins anew; codes of dates rise.
-- Assumes nothing.
use Rattle.std.specs.Prelude.{ℕ, zero, suc, ◌+◌, ◌-◌, ◌*◌, ◌/◌, ◌%◌, ◌<◌, ◌≤◌, ◌≡◌}
use Rattle.std.proofs.Common.{sym, ◌∙◌, ap, arith, add-zero, add-suc}
use Rattle.prelude.proofs.Laws.Choice.{is_lt, lt_elim}
use Rattle.days.specs.Dates.{month_length, RealDate}
use Rattle.days.specs.Days.{month_at, month_length_at, month_start, last_day, date_of, next_date}
use Rattle.days.specs.Facts.{facts_of}
use Rattle.days.proofs.Laws.Dates.{Month, length_bounds}
use Rattle.days.proofs.Laws.Days.{Located, day_located, length_at_bounds, start_suc, date_in_month, date_in_lem, valid_date, date-suc, weekday_formula}
use Rattle.days.specs.declared.types.Date.{Date}
use Rattle.days.specs.declared.types.DayFacts.{DayFacts}
use Rattle.day_steps.specs.Codes.{date_code}

-- i days later in the same month
abbrev pub later : ℕ → Date → Date
later i d = record { year = d.year; month = d.month; day = d.day + i }

next_later : (d : Date) (i : ℕ) → d.day + i < month_length d.year d.month → next_date (later i d) ≡ later (suc i) d
unfolding next_date
next_later d i h = is_lt h _ _ ∙ let e : d.day + i + 1 ≡ d.day + suc i = omega arith in rw e

same : (d : Date) → d ≡ later 0 d
same d = let e : d.day ≡ d.day + 0 = omega arith in λ i. record { year = d.year; month = d.month; day = e i }

date-later : (n i : ℕ) → (date_of n).day + i ≤ month_length (date_of n).year (date_of n).month → date_of (n + i) ≡ later i (date_of n)
date-later n zero h = rw (add-zero n) (same (date_of n))
date-later n (suc i) h = rw (add-suc n i, date-suc (n + i), date-later n i (omega arith)) (next_later (date_of n) i (omega arith))

-- the facts of a day i days later
pub record Later (f g : DayFacts) (i : ℕ) : Type 0 where
  pub year : g.date.year ≡ f.date.year
  pub month : g.date.month ≡ f.date.month
  pub day : g.date.day ≡ f.date.day + i
  pub length : g.length ≡ f.length

pub in_month : (n i : ℕ) → (facts_of n).date.day + i ≤ (facts_of n).length → Later (facts_of n) (facts_of (n + i)) i
unfolding facts_of
in_month n i h =
    let e : date_of (n + i) ≡ later i (date_of n) = date-later n i h in
    record {
      year = ap (λ (d : Date). d.year) e;
      month = ap (λ (d : Date). d.month) e;
      day = ap (λ (d : Date). d.day) e;
      length = ap (λ (d : Date). month_length d.year d.month) e;
    }

-- the facts of a day i days later where its month is over by then, and the next one is not
pub record Over (f g : DayFacts) (i : ℕ) : Type 0 where
  pub day : g.date.day + f.length ≡ f.date.day + i
  pub length : 28 ≤ g.length

pub over_month : (n i : ℕ) → (facts_of n).length < (facts_of n).date.day + i → i < 28 → Over (facts_of n) (facts_of (n + i)) i
unfolding facts_of month_length_at
over_month n i h less =
    let l : Located n = day_located n in
    let k = l.place + i - month_length_at l.month in
    let b : Month (month_at (suc l.month)) (month_length_at (suc l.month)) = length_at_bounds (suc l.month) in
    let d : date_of n ≡ date_in_month l.month l.place = ap date_of l.sum ∙ date_in_lem l.month l.place l.inside in
    let past : month_length_at l.month < l.place + 1 + i = rw d at h in
    let s : month_start (suc l.month) ≡ month_start l.month + month_length_at l.month = start_suc l.month in
    let m : n + i ≡ month_start (suc l.month) + k = omega (arith, l.sum, l.inside) in
    let e : date_of (n + i) ≡ date_in_month (suc l.month) k = ap date_of m ∙ date_in_lem (suc l.month) k (omega (arith, l.inside, b.least)) in
    rw (d, e) (record { day = omega (arith, l.inside); length = b.least })

-- a day lies in its month, and no month has less than 28
pub in_length : (n : ℕ) → n ≤ last_day → (facts_of n).date.day ≤ (facts_of n).length
unfolding facts_of
in_length n h = (valid_date n h).last

pub length_least : (n : ℕ) → n ≤ last_day → 28 ≤ (facts_of n).length
unfolding facts_of
length_least n h = let v : RealDate (date_of n) = valid_date n h in (length_bounds (date_of n).year (date_of n).month v.january v.december).least

-- codes rise
next_rises : (d : Date) → RealDate d → date_code d < date_code (next_date d)
unfolding next_date
next_rises d v =
    let m = length_bounds d.year d.month v.january v.december in
    lt_elim P d.day (month_length d.year d.month) _ _ (λ h. omega arith) (λ h. lt_elim P d.month 12 _ _ (λ i. omega arith) (λ i. omega arith))
  where
    P : Date → Type 0
    P e = date_code d < date_code e

codes_rise : (n i : ℕ) → n + i ≤ last_day → date_code (date_of n) ≤ date_code (date_of (n + i))
codes_rise n zero h = rw (add-zero n) (omega arith)
codes_rise n (suc i) h =
    rw (add-suc n i, date-suc (n + i))
    (omega (arith, codes_rise n i (omega arith), next_rises (date_of (n + i)) (valid_date (n + i) (omega arith))))

pub later-code : (n i : ℕ) → n + i ≤ last_day → date_code (facts_of n).date ≤ date_code (facts_of (n + i)).date
unfolding facts_of
later-code n i h = codes_rise n i h

-- codes of different days differ
pub code_less : (n m : ℕ) → n < m → m ≤ last_day → date_code (facts_of n).date < date_code (facts_of m).date
unfolding facts_of
code_less n m l h =
    let e : m ≡ suc n + (m - suc n) = omega arith in
    rw e (omega (arith, codes_rise (suc n) (m - suc n) (omega arith), rw (sym (date-suc n)) at (next_rises (date_of n) (valid_date n (omega arith)))))

-- the weekday i days later
pub weekday_later : (n i : ℕ) → (facts_of (n + i)).weekday ≡ ((facts_of n).weekday + 6 + i) % 7 + 1
unfolding facts_of
weekday_later n i = let a = weekday_formula n in let b = weekday_formula (n + i) in omega arith

-- it is the same a week later, and on no other days than those whole weeks later
pub week_same : (n : ℕ) → (facts_of (n + 7)).weekday ≡ (facts_of n).weekday
unfolding facts_of
week_same n = let a = weekday_formula n in let b = weekday_formula (n + 7) in omega arith

whole_weeks : (n i : ℕ) → (n + 2) % 7 ≡ (n + i + 2) % 7 → 7 * (i / 7) ≡ i
whole_weeks n i e = omega arith

pub weeks_apart : (n i : ℕ) → (facts_of n).weekday ≡ (facts_of (n + i)).weekday → 7 * (i / 7) ≡ i
unfolding facts_of
weeks_apart n i e = let a = weekday_formula n in let b = weekday_formula (n + i) in whole_weeks n i (omega arith)
