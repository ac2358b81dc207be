-- Stepping the facts of a day gives the facts of the day after.
-- Assumes nothing.
use Rattle.std.specs.Prelude.{ℕ, suc, ◌+◌, ◌<◌, ◌≡◌}
use Rattle.std.proofs.Common.{◌∙◌, arith, add-one}
use Rattle.prelude.proofs.Laws.Choice.{is_lt, is_ge, lt_elim}
use Rattle.days.specs.Dates.{month_length, RealDate}
use Rattle.days.specs.Days.{last_day, next_date, date_of, next_weekday, weekday_of}
use Rattle.days.specs.Facts.{facts_with, facts_of, stepped, next_facts}
use Rattle.days.proofs.Laws.Days.{valid_date}
use Rattle.days.specs.declared.types.Date.{Date}

abbrev Steps : ℕ → Date → ℕ → Type 0
Steps n d w = stepped (facts_with n d w) ≡ facts_with (n + 1) (next_date d) (next_weekday w)

steps : (n : ℕ) (d : Date) (w : ℕ) → Steps n d w
unfolding stepped next_date
steps n d w =
    lt_elim {X = Unit {0}} (λ _. Steps n d w) d.day (month_length d.year d.month) tt tt (λ h. simp (is_lt h))
    (λ g. lt_elim {X = Unit {0}} (λ _. Steps n d w) d.month 12 tt tt (λ h. simp (is_ge g, is_lt h)) (λ h. simp (is_ge g, is_ge h)))

pub facts-suc : (n : ℕ) → stepped (facts_of n) ≡ facts_of (suc n)
unfolding facts_of date_of weekday_of
facts-suc n = steps n (date_of n) (weekday_of n) ∙ rw (add-one n)

-- what the layers above step by
pub facts_next : (n : ℕ) → n < last_day → next_facts (facts_of n) ≡ facts_of (suc n)
unfolding next_facts facts_of
facts_next n h =
    let v : RealDate (date_of n) = valid_date n (omega arith) in is_lt h _ _ ∙ is_ge v.upto _ _ ∙ facts-suc n
