-- The ranges as facts: what an accepted record promises of its fields, and that a body's judge is its record's.
-- Assumes nothing.
use Rattle.std.specs.Prelude.{ℕ, ◌≤◌, ◌≡◌, Bool, true, false, List}
use Rattle.std.proofs.Common.{◌∙◌, arith}
use Rattle.std.proofs.lemmas.Bool.{false≢true}
use Rattle.prelude.specs.Choice.{if_eq}
use Rattle.prelude.proofs.Laws.Choice.{is_true, is_eq, is_ne, eq_elim, lt_skip, b_skip, b_take}
use Rattle.days.specs.Dates.{month_length, real, before, RealDate}
use Rattle.days.proofs.Laws.Dates.{valid_facts, length_bounds, length-month}
use Rattle.days.specs.declared.types.Date.{Date}
use Rattle.days.specs.Days.{last_minute}
use Rattle.records.specs.Fields.{record_of, to_do_of}
use Rattle.records.specs.Ranges.{times_ok, between, dated_ok, repeat_ok, weekly_ok, monthly_by_date_ok, monthly_by_position_ok, yearly_ok, check_off_ok, to_do_ok, record_ok, check_off_clean, most_lead}
use Rattle.records.specs.Bodies.{fields_ok}
use Rattle.records.specs.Invariants.{ThreeBytes}
use Rattle.records.specs.declared.types.Dated.{Dated}
use Rattle.records.specs.declared.types.Repeat.{Repeat}
use Rattle.records.specs.declared.types.ToDo.{ToDo}
use Rattle.records.specs.declared.types.Record.{Record}

pub three_bytes : {d : Date} → RealDate d → ThreeBytes d
three_bytes {d} v =
    let m = length_bounds d.year d.month v.january v.december in
    omega arith

-- n is one of a number's values
pub record Within (low n high : ℕ) : Type 0 where
  pub least : low ≤ n
  pub most : n ≤ high

pub within : {low n high : ℕ} → between low n high ≡ true → Within low n high
unfolding between
within {low} {n} {high} h =
    let h1 = lt_skip n low _ _ false≢true h in
    let h2 = lt_skip high n _ _ false≢true h1.1 in
    omega arith

-- only a month has days
pub month-within : (y m : ℕ) → 1 ≤ month_length y m → Within 1 m 12
month-within y m h = let p = length-month y m h in record { least = p.0; most = p.1 }

pub record Times (start end lead : ℕ) : Type 0 where
  pub starts : start ≤ last_minute
  pub ends : end ≤ last_minute
  pub order : start ≤ end
  pub leads : lead ≤ most_lead

pub times_facts : {a b l : ℕ} → times_ok a b l ≡ true → Times a b l
unfolding times_ok
times_facts {a} {b} {l} h =
    let h1 = lt_skip last_minute a _ _ false≢true h in
    let h2 = lt_skip last_minute b _ _ false≢true h1.1 in
    let h3 = lt_skip b a _ _ false≢true h2.1 in
    let h4 = lt_skip most_lead l _ _ false≢true h3.1 in
    omega arith

pub record DatedFacts (d : Dated) : Type 0 where
  pub date : RealDate d.date
  pub times : Times d.start.0 d.end.0 d.lead

pub dated-facts : {d : Dated} → dated_ok d ≡ true → DatedFacts d
unfolding dated_ok
dated-facts {d} h =
    let e = b_take (real d.date) _ _ false≢true h in
    record { date = valid_facts e.0; times = times_facts e.1 }

pub record RepeatFacts (r : Repeat) : Type 0 where
  pub first : RealDate r.first
  pub last : RealDate r.last
  pub order : before r.last r.first ≡ false
  pub times : Times r.start.0 r.end.0 r.lead

pub repeat_facts : {r : Repeat} → repeat_ok r ≡ true → RepeatFacts r
unfolding repeat_ok
repeat_facts {r} h =
    let e1 = b_take (real r.first) _ _ false≢true h in
    let e2 = b_take (real r.last) _ _ false≢true e1.1 in
    let e3 = b_skip (before r.last r.first) _ _ false≢true e2.1 in
    record { first = valid_facts e1.0; last = valid_facts e2.0; order = e3.0; times = times_facts e3.1 }

pub record ToDoFacts (d : ToDo) : Type 0 where
  pub priority : Within 1 d.priority 9
  pub start : RealDate d.start
  pub check : check_off_ok d.check_off ≡ true

pub to_do-facts : {d : ToDo} → to_do_ok d ≡ true → ToDoFacts d
unfolding to_do_ok
to_do-facts {d} h =
    let e1 = b_take (between 1 d.priority 9) _ _ false≢true h in
    let e2 = b_take (real d.start) _ _ false≢true e1.1 in
    record { priority = within e1.0; start = valid_facts e2.0; check = e2.1 }

-- the facts of each kind
abbrev pub Facts : Record → Type 0
Facts (Record.Dated d) = DatedFacts d
Facts (Record.Weekly w) = Within 1 w.weekday 7 × RepeatFacts w.repeat
Facts (Record.MonthlyByDate m) = Within 1 m.day 31 × RepeatFacts m.repeat
Facts (Record.MonthlyByPosition m) = Within 1 m.week 5 × Within 1 m.weekday 7 × RepeatFacts m.repeat
Facts (Record.Yearly y) = Within 1 y.month 12 × Within 1 y.day (month_length 2000 y.month) × RepeatFacts y.repeat
Facts (Record.ToDo d) = ToDoFacts d

pub record_facts : (r : Record) → record_ok r ≡ true → Facts r
unfolding record_ok weekly_ok monthly_by_date_ok monthly_by_position_ok yearly_ok
record_facts (Record.Dated d) h = dated-facts h
record_facts (Record.Weekly w) h =
    let e = b_take (between 1 w.weekday 7) _ _ false≢true h in
    (within e.0, repeat_facts e.1)
record_facts (Record.MonthlyByDate m) h =
    let e = b_take (between 1 m.day 31) _ _ false≢true h in
    (within e.0, repeat_facts e.1)
record_facts (Record.MonthlyByPosition m) h =
    let e1 = b_take (between 1 m.week 5) _ _ false≢true h in
    let e2 = b_take (between 1 m.weekday 7) _ _ false≢true e1.1 in
    (within e1.0, within e2.0, repeat_facts e2.1)
record_facts (Record.Yearly y) h =
    let e = b_take (between 1 y.day (month_length 2000 y.month)) _ _ false≢true h in
    let w = within e.0 in
    (month-within 2000 y.month (omega arith), w, repeat_facts e.1)
record_facts (Record.ToDo d) h = to_do-facts h

-- Two choices by one test are compared arm by arm.
eq_both :
    {X Y : Type 0} (R : X → Y → Type 0) (a b : ℕ) (x y : X) (u v : Y)
    → (a ≡ b → R x u) → ((a ≡ b → ⊥) → R y v) → R (if_eq a b x y) (if_eq a b u v)
eq_both R a b x y u v f g =
    eq_elim (λ z. R z (if_eq a b u v)) a b x y (λ e. rw (is_eq e u v) (f e)) (λ n. rw (is_ne n u v) (g n))

-- A body's fields are in range just when its record is and, of a to-do, its check-off bytes are clean.
pub fields_record : (t : ℕ) (p : List ℕ) → fields_ok t p ≡ true → record_ok (record_of t p) ≡ true
unfolding fields_ok record_of record_ok
fields_record t p =
    eq_both R t 1 _ _ _ _ (λ _. λ h. h)
    (λ _. eq_both R t 2 _ _ _ _ (λ _. λ h. h)
    (λ _. eq_both R t 3 _ _ _ _ (λ _. λ h. h)
    (λ _. eq_both R t 4 _ _ _ _ (λ _. λ h. h)
    (λ _. eq_both R t 5 _ _ _ _ (λ _. λ h. h) (λ _. λ h. (b_take (to_do_ok (to_do_of p)) _ _ false≢true h).0)))))
  where
    R : Record → Bool → Type 0
    R r b = b ≡ true → record_ok r ≡ true

pub fields_clean : (p : List ℕ) → fields_ok 6 p ≡ true → check_off_clean p ≡ true
unfolding fields_ok if_eq
fields_clean p h = (b_take (to_do_ok (to_do_of p)) _ _ false≢true h).1

pub record_fields :
    (t : ℕ) (p : List ℕ) → 1 ≤ t → t ≤ 6 → record_ok (record_of t p) ≡ true → (t ≡ 6 → check_off_clean p ≡ true) → fields_ok t p ≡ true
unfolding fields_ok record_of record_ok
record_fields t p low high k clean =
    eq_both R t 1 _ _ _ _ (λ _. λ h. h)
    (λ n1. eq_both R t 2 _ _ _ _ (λ _. λ h. h)
    (λ n2. eq_both R t 3 _ _ _ _ (λ _. λ h. h)
    (λ n3. eq_both R t 4 _ _ _ _ (λ _. λ h. h)
    (λ n4. eq_both R t 5 _ _ _ _ (λ _. λ h. h) (λ n5. λ h. is_true h _ _ ∙ clean (omega arith)))))) k
  where
    R : Record → Bool → Type 0
    R r b = record_ok r ≡ true → b ≡ true
