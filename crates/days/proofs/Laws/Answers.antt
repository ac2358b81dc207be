-- Laws of the answers about days: both round trips, dates and Psion days.
-- Assumes nothing.
use Rattle.std.specs.Prelude.{Result, Ok, Err, ℕ, ◌+◌, ◌-◌, ◌<◌, ◌≤◌, ◌≡◌, false}
use Rattle.std.proofs.Common.{sym, ◌∙◌, ap, arith}
use Rattle.prelude.proofs.Laws.Choice.{is_lt, is_ge, is_true, lt_yes, lt_skip, lt_take, b_take, b_skip, constructors_differ}
use Rattle.prelude.proofs.Laws.Results.{err_not_ok, ok_not_err, err_inj}
use Rattle.prelude.specs.Choice.{if_lt}
use Rattle.prelude.specs.Refusals.{out_of_range, refusal}
use Rattle.prelude.specs.declared.refusals.Refusal.{Refusal}
use Rattle.days.specs.Dates.{real, RealDate}
use Rattle.days.specs.Days.{last_day, day_number, date_of}
use Rattle.days.specs.Facts.{facts_of}
use Rattle.days.specs.Answers.{day_answer, date_answer, facts_answer, calendar_of_psion, psion_of_calendar, psion_first, psion_last}
use Rattle.days.proofs.Laws.Dates.{facts_valid, valid_facts}
use Rattle.days.proofs.Laws.Days.{number_date, date_number_lem, number_bound, valid_date}
use Rattle.days.specs.declared.types.Date.{Date}
use Rattle.days.specs.declared.types.DayFacts.{DayFacts}
use Rattle.days.specs.declared.types.CalendarDay.{CalendarDay}
use Rattle.days.specs.declared.types.PsionDay.{PsionDay}

-- what an accepted answer says
pub date-given : {d : Date} {n : CalendarDay} → date_answer n ≡ Ok d → (n.0 ≤ last_day) × (date_of n.0 ≡ d)
unfolding date_answer
date-given {d} {n} e =
    let p = lt_skip last_day n.0 _ _ (λ c. constructors_differ cc) e in
    let q : date_of n.0 ≡ d = cc p.1 in
    (p.0, q)

pub day_given : {d : Date} {n : CalendarDay} → day_answer d ≡ Ok n → RealDate d × (day_number d ≡ n.0)
unfolding day_answer
day_given {d} {n} e =
    let p = b_take (real d) _ _ (λ c. constructors_differ cc) e in
    let q : ◌≡◌ {A = CalendarDay} (record { 0 = day_number d }) n = cc p.1 in
    (valid_facts p.0, ap (λ (m : CalendarDay). m.0) q)

pub day_refused : (d : Date) {e : Refusal} → day_answer d ≡ Err e → real d ≡ false
unfolding day_answer
day_refused d e = (b_skip (real d) _ _ (λ c. constructors_differ cc) e).0

pub facts-given : {f : DayFacts} {n : CalendarDay} → facts_answer n ≡ Ok f → (n.0 ≤ last_day) × (facts_of n.0 ≡ f)
unfolding facts_answer
facts-given {f} {n} e =
    let p = lt_skip last_day n.0 _ _ (λ c. constructors_differ cc) e in
    let q : facts_of n.0 ≡ f = cc p.1 in
    (p.0, q)

-- the two cases of a day's facts: in range, and past the last day
pub facts_in_lem : (n : CalendarDay) → n.0 ≤ last_day → facts_answer n ≡ Ok (facts_of n.0)
unfolding facts_answer
facts_in_lem n h = is_ge h _ _

pub facts_out_lem : (n : CalendarDay) → last_day < n.0 → facts_answer n ≡ Err (refusal out_of_range)
unfolding facts_answer
facts_out_lem n h = is_lt h _ _

-- the date that a day gives is real, and gives the day back
pub date_then_day : {d : Date} {n : CalendarDay} → date_answer n ≡ Ok d → day_answer d ≡ Ok n
unfolding day_answer
date_then_day {d} {n} e =
    let h : (n.0 ≤ last_day) × (date_of n.0 ≡ d) = date-given e in
    let v : RealDate d = rw h.1 at (valid_date n.0 h.0) in
    let m : day_number d ≡ n.0 = ap day_number (sym h.1) ∙ number_date n.0 in
    is_true (facts_valid v) _ _ ∙ ap (λ (k : ℕ). Ok (record { 0 = k })) m

-- the day that a date gives is in range, and gives the date back
pub day_then_date : {d : Date} {n : CalendarDay} → day_answer d ≡ Ok n → date_answer n ≡ Ok d
unfolding date_answer
day_then_date {d} {n} e =
    let h : RealDate d × (day_number d ≡ n.0) = day_given e in
    let b : day_number d ≤ last_day = number_bound h.0 in
    let m : day_number d ≡ n.0 = h.1 in
    is_ge (omega arith) _ _ ∙ ap Ok (ap date_of (sym m) ∙ date_number_lem h.0)

-- Psion days and Calendar days: each way undoes the other
pub psion_then_calendar : {p : PsionDay} {n : CalendarDay} → calendar_of_psion p ≡ Ok n → psion_of_calendar n ≡ Ok p
unfolding calendar_of_psion psion_of_calendar
psion_then_calendar {p} {n} e =
    let q = lt_skip p.0 psion_first _ _ (λ c. constructors_differ cc) e in
    let r = lt_skip psion_last p.0 _ _ (λ c. constructors_differ cc) q.1 in
    let s : ◌≡◌ {A = CalendarDay} (record { 0 = p.0 - psion_first }) n = cc r.1 in
    let m : p.0 - psion_first ≡ n.0 = ap (λ (k : CalendarDay). k.0) s in
    let low : psion_first ≤ p.0 = q.0 in
    let high : p.0 ≤ psion_last = r.0 in
    let back : n.0 + psion_first ≡ p.0 = omega arith in
    is_ge (omega arith) _ _ ∙ ap (λ (k : ℕ). Ok (record { 0 = k })) back

pub calendar_then_psion : {p : PsionDay} {n : CalendarDay} → psion_of_calendar n ≡ Ok p → calendar_of_psion p ≡ Ok n
unfolding calendar_of_psion psion_of_calendar
calendar_then_psion {p} {n} e =
    let q = lt_skip (psion_last - psion_first) n.0 _ _ (λ c. constructors_differ cc) e in
    let s : ◌≡◌ {A = PsionDay} (record { 0 = n.0 + psion_first }) p = cc q.1 in
    let m : n.0 + psion_first ≡ p.0 = ap (λ (k : PsionDay). k.0) s in
    let high : n.0 ≤ psion_last - psion_first = q.0 in
    let back : p.0 - psion_first ≡ n.0 = omega arith in
    is_ge (omega arith) _ _ ∙ is_ge (omega arith) _ _ ∙ ap (λ (k : ℕ). Ok (record { 0 = k })) back

-- What `in_range` says of a day: where it refuses, each answer about the day is the refusal; where not, the day is one of the calendar.
pub range_left : {X : Type 0} (n : ℕ) {e : Refusal} (x : X) → if_lt {X = Result (Unit {0}) Refusal} last_day n (Err (refusal out_of_range)) (Ok tt) ≡ Err e → Err e ≡ if_lt {X = Result X Refusal} last_day n (Err (refusal out_of_range)) (Ok x)
range_left n x h = let t = lt_take last_day n _ _ ok_not_err h in lt_yes _ _ _ t.0 (ap Err (sym (err_inj t.1)))

pub range_kept : (n : ℕ) {u : Unit {0}} → if_lt {X = Result (Unit {0}) Refusal} last_day n (Err (refusal out_of_range)) (Ok tt) ≡ Ok u → n ≤ last_day
range_kept n h = (lt_skip last_day n _ _ err_not_ok h).0
