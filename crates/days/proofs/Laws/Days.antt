-- Laws of day numbers: where a day lies among the months, both round trips, bounds, the weekday's formula.
-- Assumes nothing.
use Rattle.std.specs.Prelude.{ℕ, zero, suc, ◌+◌, ◌-◌, ◌*◌, ◌/◌, ◌%◌, ◌<◌, ◌≤◌, ◌≡◌, refl}
use Rattle.std.proofs.Common.{sym, ◌∙◌, ap, arith, add-zero, add-suc}
use Rattle.prelude.specs.Choice.{if_lt, if_eq, if_b}
use Rattle.prelude.proofs.Laws.Choice.{is_lt, is_ge, lt_elim}
use Rattle.days.specs.Dates.{leap, month_length, RealDate}
use Rattle.days.specs.Days.{year_at, month_at, month_length_at, month_start, month_of, day_number, next_date, date_of, next_weekday, weekday_of, last_day}
use Rattle.days.proofs.Laws.Dates.{Month, length_bounds}
use Rattle.days.specs.declared.types.Date.{Date}

-- the equations of the month starts
pub start_zero : month_start 0 ≡ 0
unfolding month_start
start_zero = refl

pub start_suc : (i : ℕ) → month_start (suc i) ≡ month_start i + month_length_at i
unfolding month_start
start_suc i = refl

pub length_at_bounds : (i : ℕ) → Month (month_at i) (month_length_at i)
unfolding month_length_at
length_at_bounds i = length_bounds (year_at i) (month_at i) (omega arith) (omega arith)

-- December 2099 is month 1,439, and what follows it starts on day 43,830
pub start_last : month_start 1440 ≡ 43830
unfolding month_start month_length_at month_length leap if_eq if_lt if_b
start_last = refl

-- month starts rise
pub start_rises : (i k : ℕ) → month_start i ≤ month_start (i + k)
start_rises i zero = rw add-zero (omega arith)
start_rises i (suc k) =
    let h : month_start i ≤ month_start (i + k) = start_rises i k in rw (add-suc, start_suc) (omega arith)

pub start_le : {i j : ℕ} → i ≤ j → month_start i ≤ month_start j
start_le {i} {j} h = let e : i + (j - i) ≡ j = omega arith in rw e at (start_rises i (j - i))

-- the date k days after the first of month i
abbrev pub date_in_month : ℕ → ℕ → Date
date_in_month i k = record { year = year_at i; month = month_at i; day = k + 1 }

same-date : {y y' m m' d d' : ℕ} → y ≡ y' → m ≡ m' → d ≡ d' → ◌≡◌ {A = Date} (record { year = y; month = m; day = d }) (record { year = y'; month = m'; day = d' })
same-date p q r = λ i. record { year = p i; month = q i; day = r i }

next_in_lem : (i k : ℕ) → k + 1 < month_length_at i → next_date (date_in_month i k) ≡ date_in_month i (suc k)
unfolding next_date month_length_at
next_in_lem i k h = is_lt h _ _ ∙ same-date refl refl (omega arith)

next_month : (i k : ℕ) → k + 1 ≡ month_length_at i → next_date (date_in_month i k) ≡ date_in_month (suc i) 0
unfolding next_date month_length_at
next_month i k e =
    is_ge (let h : month_length (year_at i) (month_at i) ≤ k + 1 = omega arith in h) _ _
    ∙ lt_elim (λ z. z ≡ date_in_month (suc i) 0) (month_at i) 12 _ _ (λ l. same-date (omega arith) (omega arith) (omega arith))
    (λ g. same-date (omega arith) (omega arith) (omega arith))

pub date-suc : (n : ℕ) → date_of (suc n) ≡ next_date (date_of n)
unfolding date_of
date-suc n = refl

date-within : (i k : ℕ) → date_of (month_start i) ≡ date_in_month i 0 → k < month_length_at i → date_of (month_start i + k) ≡ date_in_month i k
date-within i zero e h = rw add-zero e
date-within i (suc k) e h =
    rw (add-suc (month_start i) k, date-suc, date-within i k e (omega arith)) (next_in_lem i k (omega arith))

date_first : (i : ℕ) → date_of (month_start i) ≡ date_in_month i 0
unfolding date_of month_start
date_first zero = refl
date_first (suc i) =
    let b : Month (month_at i) (month_length_at i) = length_at_bounds i in
    let s : month_start i + month_length_at i ≡ suc (month_start i + (month_length_at i - 1)) = omega arith in
    rw (s, date-within i (month_length_at i - 1) (date_first i) (omega arith)) (next_month i (month_length_at i - 1) (omega arith))

-- the date of day k of month i
pub date_in_lem : (i k : ℕ) → k < month_length_at i → date_of (month_start i + k) ≡ date_in_month i k
date_in_lem i k h = date-within i k (date_first i) h

-- the month of a day, and its place there
pub record Located (n : ℕ) : Type 0 where
  pub month : ℕ
  pub place : ℕ
  pub inside : place < month_length_at month
  pub sum : n ≡ month_start month + place

pub day_located : (n : ℕ) → Located n
day_located zero =
    let b : Month (month_at 0) (month_length_at 0) = length_at_bounds 0 in
    record { month = 0; place = 0; inside = omega arith; sum = sym (add-zero _ ∙ start_zero) }
day_located (suc n) = onward (day_located n)
  where
    onward : Located n → Located (suc n)
    onward l =
        let e : n ≡ month_start l.month + l.place = l.sum in
        let b : Month (month_at (suc l.month)) (month_length_at (suc l.month)) = length_at_bounds (suc l.month) in
        let s : month_start (suc l.month) ≡ month_start l.month + month_length_at l.month = start_suc l.month in
        lt_elim {X = Unit {0}} (λ _. Located (suc n)) (l.place + 1) (month_length_at l.month) tt tt
        (λ h. record { month = l.month; place = l.place + 1; inside = h; sum = omega arith })
        (λ g. record { month = suc l.month; place = 0; inside = omega arith; sum = omega (arith, l.inside) })

-- the day number of day k of month i
pub number_in : (i k : ℕ) → day_number (date_in_month i k) ≡ month_start i + k
unfolding day_number
number_in i k =
    let m : (1980 + i / 12 - 1980) * 12 + (i % 12 + 1 - 1) ≡ i = omega arith in
    let d : k + 1 - 1 ≡ k = omega arith in
    rw (m, d)

-- round trip: the day of a day's date is that day
pub number_date : (n : ℕ) → day_number (date_of n) ≡ n
number_date n =
    let l : Located n = day_located n in
    rw l.sum (ap day_number (date_in_lem l.month l.place l.inside) ∙ number_in l.month l.place)

-- a real date, as a day of a month
pub valid_in : {d : Date} → RealDate d → ◌≡◌ {A = Date} d (date_in_month (month_of d) (d.day - 1))
valid_in {d} v = same-date (omega arith) (omega arith) (omega arith)

pub valid_length : {d : Date} → RealDate d → month_length_at (month_of d) ≡ month_length d.year d.month
unfolding month_length_at
valid_length {d} v =
    let y : year_at (month_of d) ≡ d.year = omega arith in
    let m : month_at (month_of d) ≡ d.month = omega arith in
    rw (y, m)

-- round trip: the date of a real date's day is that date
pub date_number_lem : {d : Date} → RealDate d → date_of (day_number d) ≡ d
unfolding day_number
date_number_lem {d} v =
    let e : month_length_at (month_of d) ≡ month_length d.year d.month = valid_length v in
    date_in_lem (month_of d) (d.day - 1) (omega arith) ∙ sym (valid_in v)

-- bounds: real dates are the days 0 to 43,829, both ways
pub number_bound : {d : Date} → RealDate d → day_number d ≤ last_day
unfolding day_number
number_bound {d} v =
    let e : month_length_at (month_of d) ≡ month_length d.year d.month = valid_length v in
    let s : month_start (suc (month_of d)) ≡ month_start (month_of d) + month_length_at (month_of d) = start_suc (month_of d) in
    let h : month_start (suc (month_of d)) ≤ month_start 1440 = start_le (omega arith) in
    let l : month_start 1440 ≡ 43830 = start_last in
    omega arith

pub month_bound : {i n : ℕ} → month_start i ≤ n → n ≤ last_day → i < 1440
month_bound {i} {n} low high =
    lt_elim {X = Unit {0}} (λ _. i < 1440) i 1440 tt tt (λ h. h)
    (λ g. let h : month_start 1440 ≤ month_start i = start_le g in let l : month_start 1440 ≡ 43830 = start_last in omega arith)

pub valid_date : (n : ℕ) → n ≤ last_day → RealDate (date_of n)
unfolding month_length_at
valid_date n h =
    let l : Located n = day_located n in
    let e : n ≡ month_start l.month + l.place = l.sum in
    let b : l.month < 1440 = month_bound (omega arith) h in
    rw (ap date_of e ∙ date_in_lem l.month l.place l.inside) (omega arith)

-- the weekday's formula
pub weekday_formula : (n : ℕ) → weekday_of n ≡ (n + 2) % 7 + 1
unfolding weekday_of next_weekday
weekday_formula zero = refl
weekday_formula (suc n) =
    let e : weekday_of n ≡ (n + 2) % 7 + 1 = weekday_formula n in
    rw e (lt_elim (λ z. z ≡ (suc n + 2) % 7 + 1) ((n + 2) % 7 + 1) 7 _ _ (λ h. omega arith) (λ h. omega arith))
