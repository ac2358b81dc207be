-- The search of a rule's days in a span: what is passed over before its first date, and after a day on which it shows.
-- Assumes nothing.
use Rattle.std.specs.Prelude.{◌≡◌, ℕ, ◌+◌, ◌-◌, ◌<◌, ◌≤◌, Bool, true, false, List, length, ◌≢◌, slice_index}
use Rattle.std.proofs.Common.{sym, ◌∙◌, arith}
use Rattle.std.proofs.Math.Bool.{false≢true}
use Rattle.prelude.proofs.Laws.Choice.{is_eq, is_ge, eq_take, eq_elim, lt_skip, lt_elim, bool_cases}
use Rattle.day_steps.specs.Codes.{date_in, weekday_in, Spanned, Days}
use Rattle.day_steps.proofs.Laws.Codes.{held_day}
use Rattle.day_steps.proofs.Laws.Months.{week_same}
use Rattle.falls.specs.declared.types.ShortMonth.{ShortMonth}
use Rattle.occurrences.specs.Rules.{on_date, in_dates, rule_shows, wait_for, gap_of, longest_wait}
use Rattle.occurrences.proofs.Laws.Rules.{on-weekly, shows-on, shows-both}
use Rattle.occurrences.proofs.Laws.Waits.{shows_out, in_dates-before_first, in_dates-after_last, spanned_less, spanned_not}
use Rattle.occurrences.proofs.Laws.Gaps.{months-apart}
use Rattle.occurrences.specs.Next.{Next, DatesAhead}
use Rattle.occurrences.proofs.Laws.Next.{next-hit, next-end, next_later}
use Rattle.occurrences.specs.declared.types.Rule.{Rule}

pub spanned_days : {first : ℕ} {days : List ℕ} → Spanned first days → Days days
spanned_days {first} s = record { first = first; spanned = s }

-- dates rise, so that one day tells of all before it
module _ {first : ℕ} {days : List ℕ} (s : Spanned first days) {date : ℕ} where
  pub ahead-at : (n : ℕ) → n < length days → date_in (slice_index days n) ≤ date → DatesAhead days date n
  ahead-at n inside h = record { high = omega arith; early = λ k less. omega (arith, spanned_less s k n less inside) }

  pub ahead-all : (n : ℕ) → n + 1 ≡ length days → date_in (slice_index days n) < date → DatesAhead days date (length days)
  ahead-all n e h =
      record {
        high = omega arith;
        early =
            λ k less.
            lt_elim {X = Unit {0}} (λ _. date_in (slice_index days k) < date) k n tt tt (λ l. omega (arith, spanned_less s k n l (omega arith)))
            (λ l. let q : n ≡ k = omega arith in rw q at h);
      }

-- before the first date
pub next_ahead : {days : List ℕ} (c : ShortMonth) (r : Rule) {from n : ℕ} → DatesAhead days r.first from → Next (λ k. rule_shows c r (slice_index days k)) from (length days) n → Next (λ k. rule_shows c r (slice_index days k)) 0 (length days) n
next_ahead {days} c r a = next_later (omega arith) (λ k _ h _. shows_out c r (slice_index days k) (in_dates-before_first r (slice_index days k) (a.early k h)))

-- a gap is a day or more, and a year at most
pub record Gap (n : ℕ) : Type 0 where
  pub least : 1 ≤ n
  pub most : n ≤ longest_wait

pub gap_bounds : (kind : ℕ) → Gap (gap_of kind)
unfolding gap_of
gap_bounds kind = eq_elim Gap kind 1 _ _ (λ _. omega arith) (λ _. omega arith)

-- a rule that shows has begun, and a weekly one shows on its weekday
module _ (c : ShortMonth) (r : Rule) (p : ℕ) (e : rule_shows c r p ≡ true) where
  shows-begun : r.first ≤ date_in p
  unfolding in_dates
  shows-begun = (lt_skip (date_in p) r.first false _ false≢true (shows-both c r p e).1).0

  shows-weekday : r.kind ≡ 2 → weekday_in p ≡ r.a
  shows-weekday k = (eq_take (weekday_in p) r.a true false false≢true (sym (on-weekly c r p k) ∙ (shows-both c r p e).0)).0

  weekly-wait : r.kind ≡ 2 → 7 ≤ wait_for r p
  unfolding wait_for
  weekly-wait k =
      let w = shows-weekday k in
      lt_elim (λ (z : ℕ). 7 ≤ z) (date_in p) r.last _ _ (λ _. rw (is_eq k) (omega arith)) (λ _. omega arith)

within-dates : (r : Rule) (p : ℕ) → r.first ≤ date_in p → date_in p ≤ r.last → in_dates r p ≡ true
unfolding in_dates
within-dates r p a b = is_ge a _ _ ∙ is_ge b _ _

module _ {first : ℕ} {days : List ℕ} (s : Spanned first days) (c : ShortMonth) (r : Rule) where
  abbrev shown : ℕ → Bool
  shown k = rule_shows c r (slice_index days k)

  week-later : (j : ℕ) → j + 7 < length days → weekday_in (slice_index days (j + 7)) ≡ weekday_in (slice_index days j)
  week-later j h =
      let e : first + (j + 7) ≡ first + j + 7 = omega arith in
      let a = (held_day (first + j) (omega (arith, s.end))).weekday in
      let b = (held_day (first + j + 7) (omega (arith, s.end))).weekday in
      let w = week_same (first + j) in
      rw (s.each j (omega arith), s.each (j + 7) h, e) (omega arith)

  past : (j k : ℕ) → j ≤ k → k < length days → r.last < date_in (slice_index days j) → shown k ≡ false
  past j k l inside h =
      shows_out c r _ (in_dates-after_last r _ (lt_elim {X = Unit {0}} (λ _. r.last < date_in (slice_index days k)) j k tt tt
      (λ m. omega (arith, spanned_less s j k m inside)) (λ m. let e : j ≡ k = omega arith in rw e at h)))

  module _ (j : ℕ) (inside : j < length days) where
    -- where the last date is reached none follows
    pub after_last : r.last ≤ date_in (slice_index days j) → Next (λ k. rule_shows c r (slice_index days k)) (j + 1) (length days) (length days)
    after_last h = next-end (omega arith) (λ k from less. shows_out c r _ (in_dates-after_last r _ (omega (arith, spanned_less s j k (omega arith) less))))

    -- a weekly rule: the days end within the week, the rule does, or it shows a week later
    module _ (kind : r.kind ≡ 2) (e : rule_shows c r (slice_index days j) ≡ true) where
      within-week : (k : ℕ) → j + 1 ≤ k → k < j + 7 → k < length days → shown k ≡ false
      within-week k from less end = let w = weekly-wait c r (slice_index days j) e kind in spanned_not s c r j k (omega arith) end (omega arith)

      pub week-days : length days ≤ j + 7 → Next (λ k. rule_shows c r (slice_index days k)) (j + 1) (length days) (length days)
      week-days h = next-end (omega arith) (λ k from less. within-week k from (omega arith) less)

      pub week-dates : j + 7 < length days → r.last < date_in (slice_index days (j + 7)) → Next (λ k. rule_shows c r (slice_index days k)) (j + 1) (length days) (length days)
      week-dates end h =
          next-end (omega arith)
          (λ k from less. lt_elim {X = Unit {0}} (λ _. shown k ≡ false) k (j + 7) tt tt (λ m. within-week k from m less) (λ m. past (j + 7) k m less h))

      pub week-shows : j + 7 < length days → date_in (slice_index days (j + 7)) ≤ r.last → Next (λ k. rule_shows c r (slice_index days k)) (j + 1) (length days) (j + 7)
      week-shows end h =
          let on : on_date c r (slice_index days (j + 7)) ≡ true = on-weekly c r _ kind ∙ is_eq (week-later j end ∙ shows-weekday c r _ e kind) _ _ in
          let begun : r.first ≤ date_in (slice_index days (j + 7)) = omega (arith, shows-begun c r (slice_index days j) e, spanned_less s j (j + 7) (omega arith) end) in
          next-hit (omega arith) end (λ k from less. within-week k from less (omega arith)) (shows-on c r _ on ∙ within-dates r _ begun h)

    -- any other rule: none within its gap
    module _ (kind : r.kind ≡ 2 → ⊥) (e : rule_shows c r (slice_index days j) ≡ true) where
      within-month : (r.kind ≢ 1) → (k : ℕ) → j + 1 ≤ k → k < j + 28 → k < length days → shown k ≡ false
      within-month n k from less end =
          let d : first + k ≡ first + j + (k - j) = omega arith in
          let x = rw (s.each j inside) at e in
          bool_cases (shown k)
          (λ f. absurd (months-apart (first + j) (k - j) (omega (arith, s.end)) (omega arith) (omega arith) c r n kind x (rw (s.each k end, d) at f)))
          (λ f. f)

      within-gap : (k : ℕ) → j + 1 ≤ k → k < j + gap_of r.kind → k < length days → shown k ≡ false
      unfolding gap_of
      within-gap k from less end =
          eq_elim (λ z. k < j + z → shown k ≡ false) r.kind 1 _ _ (λ _ b. absurd (omega arith)) (λ o b. within-month o k from (omega arith) end) less

      pub after-gap : {gap n : ℕ} → gap ≡ gap_of r.kind → Next (λ k. rule_shows c r (slice_index days k)) (j + gap) (length days) n → Next (λ k. rule_shows c r (slice_index days k)) (j + 1) (length days) n
      after-gap {gap} {n} g m = let l = (gap_bounds r.kind).least in next_later (omega arith) (λ k a b h. within-gap k a (rw g at b) h) m
