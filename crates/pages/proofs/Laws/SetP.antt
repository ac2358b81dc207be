-- Set P holds: by dates and not by day numbers, as it is quick to compute.
-- Assumes nothing.
use Rattle.std.specs.Prelude.{ℕ, zero, suc, ◌+◌, ◌%◌, ◌≤◌, ◌≡◌, refl, Bool, true, false, List, [], ◌∷◌}
use Rattle.std.proofs.Common.{◌∙◌, ap, arith}
use Rattle.prelude.specs.Choice.{if_lt, if_eq, if_b}
use Rattle.sorting.specs.Keep.{keep}
use Rattle.days.specs.Dates.{leap, month_length, real, before, RealDate}
use Rattle.days.specs.Days.{month_length_at, month_start, day_number}
use Rattle.days.specs.Facts.{facts_with, facts_of}
use Rattle.days.proofs.Laws.Dates.{valid_facts}
use Rattle.days.proofs.Laws.Days.{date_number_lem, weekday_formula}
use Rattle.days.specs.Answers.{day_answer}
use Rattle.days.specs.declared.types.DayFacts.{DayFacts}
use Rattle.days.specs.declared.types.Date.{Date}
use Rattle.records.specs.declared.types.Record.{Record}
use Rattle.falls.specs.Falls.{in_span, weekly_falls, by_position_falls, on_missing_day, on_day, by_date_falls, yearly_falls, falls}
use Rattle.falls.specs.declared.types.ShortMonth.{ShortMonth}
use Rattle.pages.specs.Next.{next_of}
use Rattle.pages.proofs.Laws.Next.{from_next, from_found}
use Rattle.pages.specs.SetP.{on, month_days_from, falls_in, FactHolds, All, by_position, weekly, monthly, yearly, facts}

-- a day's facts by its date
facts-on : {d : Date} → RealDate d → facts_of (day_number d) ≡ facts_with (day_number d) d ((day_number d + 2) % 7 + 1)
unfolding facts_of
facts-on {d} v = rw (date_number_lem v, weekday_formula (day_number d))

-- n in front of a list, or the list alone
abbrev maybe : Bool → ℕ → List ℕ → List ℕ
maybe true n l = n ∷ l
maybe false n l = l

picked : (b : Bool) (n : ℕ) (l : List ℕ) → if_b b (n ∷ l) l ≡ maybe b n l
unfolding if_b
picked true n l = refl
picked false n l = refl

-- the same by the number n of the first of k days, as it is quick to compute
abbrev falling_from : ShortMonth → Record → ℕ → ℕ → ℕ → ℕ → ℕ → List ℕ
falling_from c r y m zero d n = []
falling_from c r y m (suc k) d n =
    maybe (falls c (facts_with n (on y m d) ((n + 2) % 7 + 1)) r) n (falling_from c r y m k (d + 1) (n + 1))

next_number : (y m d : ℕ) → 1 ≤ d → day_number (on y m (d + 1)) ≡ day_number (on y m d) + 1
unfolding day_number
next_number y m d h = omega arith

by_dates :
    (c : ShortMonth) (r : Record) (y m k d n : ℕ) → RealDate (on y m 1) → 1 ≤ d → d + k ≤ month_length y m + 1 → day_number (on y m d) ≡ n
    → keep (λ n. falls c (facts_of n) r) (month_days_from y m k d) ≡ falling_from c r y m k d n
unfolding keep
by_dates c r y m zero d n v l h e = refl
by_dates c r y m (suc k) d n v l h e =
    let w : RealDate (on y m d) = record { from = v.from; upto = v.upto; january = v.january; december = v.december; first = l; last = omega arith } in
    let t : keep (λ n. falls c (facts_of n) r) (month_days_from y m k (d + 1)) ≡ falling_from c r y m k (d + 1) (n + 1) = by_dates c r y m k (d + 1) (n + 1) v (omega arith) (omega arith) (next_number y m d l ∙ ap (λ (z : ℕ). z + 1) e) in
    rw (t, facts-on w, e) (picked (falls c (facts_with n (on y m d) ((n + 2) % 7 + 1)) r) _ _)

month :
    (c : ShortMonth) (r : Record) (y m n : ℕ) {ds : List ℕ} → real (on y m 1) ≡ true → day_number (on y m 1) ≡ n
    → falling_from c r y m (month_length y m) 1 n ≡ ds → FactHolds (falls_in c r y m ds)
month c r y m n v e h = by_dates c r y m (month_length y m) 1 n (valid_facts v) (omega arith) (omega arith) e ∙ h

one_day : (r : Record) (d : Date) {b : Bool} → real d ≡ true → falls ShortMonth.Skip (facts_with (day_number d) d ((day_number d + 2) % 7 + 1)) r ≡ b → falls ShortMonth.Skip (facts_of (day_number d)) r ≡ b
one_day r d v h = ap (λ (z : DayFacts). falls ShortMonth.Skip z r) (facts-on (valid_facts v)) ∙ h

abbrev tuesday : ℕ → Bool
tuesday d = falls ShortMonth.Skip (facts_of d) (weekly 3)

pub set_p : All facts
unfolding day_answer real day_number month_start month_length_at month_length leap before in_span weekly_falls by_position_falls on_missing_day on_day by_date_falls yearly_falls falls next_of if_lt if_eq if_b
set_p = (
  refl,
  (
    refl,
    (
      refl,
      (
        weekday_formula 4822,
        (
          refl,
          (
            weekday_formula 7364,
            (
              refl,
              (
                weekday_formula 43829,
                (
                  refl,
                  (
                    month ShortMonth.Skip (by_position 2 3) 1993 3 4808 refl refl refl,
                    (
                      month ShortMonth.Skip (by_position 5 2) 1993 3 4808 refl refl refl,
                      (
                        month ShortMonth.Skip (monthly 31) 1993 4 4839 refl refl refl,
                        (
                          month ShortMonth.Last (monthly 31) 1993 4 4839 refl refl refl,
                          (
                            month ShortMonth.Last (yearly 2 29) 1993 2 4780 refl refl refl,
                            (
                              from_next tuesday 4822 4822 (omega arith) (one_day (weekly 3) (on 1993 3 15) refl refl)
                                  ∙ from_found tuesday 4822 4823 (omega arith) (one_day (weekly 3) (on 1993 3 16) refl refl),
                              tt,
                            ),
                          ),
                        ),
                      ),
                    ),
                  ),
                ),
              ),
            ),
          ),
        ),
      ),
    ),
  ),
)
