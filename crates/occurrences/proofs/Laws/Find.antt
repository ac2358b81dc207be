-- The search of a rule's next day: which days are passed over.
-- Assumes nothing.
use Rattle.std.specs.Prelude.{◌≡◌, ℕ, ◌+◌, ◌-◌, ◌<◌, ◌≤◌, Bool, false}
use Rattle.std.proofs.Common.{sym, ap, ◌∙◌, arith}
use Rattle.prelude.proofs.Laws.Choice.{lt_elim}
use Rattle.days.specs.Days.{last_day}
use Rattle.days.specs.Facts.{facts_of}
use Rattle.days.specs.declared.types.DayFacts.{DayFacts}
use Rattle.day_steps.specs.Codes.{date_code, date_of_code, day_code, date_in}
use Rattle.day_steps.proofs.Laws.Codes.{facts_known, day_code_holds}
use Rattle.day_steps.specs.Moves.{FactsAt}
use Rattle.day_steps.proofs.Laws.Moves.{Reaches, reaches_most, reaches_same, moved_reaches}
use Rattle.falls.specs.declared.types.ShortMonth.{ShortMonth}
use Rattle.occurrences.specs.Rules.{rule_shows, start_from, wait_for}
use Rattle.occurrences.proofs.Laws.Waits.{shows_out, in_dates-before_first, date-past, wait-not}
use Rattle.occurrences.specs.declared.types.Rule.{Rule}

-- the search passes over days before the rule's first date alone
pub start_reaches : (r : Rule) {f : DayFacts} → FactsAt f f.day.0 → Reaches f r.first (start_from r f)
unfolding start_from
start_reaches r {f} a =
    lt_elim (λ (g : DayFacts). Reaches f r.first g) (date_code f.date) r.first _ _
    (λ _. reaches_most (omega arith) (moved_reaches (date_of_code r.first) a))
    (λ _. reaches_same r.first a)

pub start-reached : (r : Rule) {f s : DayFacts} → FactsAt f f.day.0 → s ≡ start_from r f → Reaches f r.first s
start-reached r a e = rw e (start_reaches r a)

-- the code of the day on which the search stands
module _ {g : DayFacts} (a : FactsAt g g.day.0) {p : ℕ} (e : p ≡ day_code g) where
  pub code-here : p ≡ day_code (facts_of g.day.0)
  code-here = e ∙ ap (λ (x : DayFacts). day_code x) a.facts

  pub wait-here : (r : Rule) {w : ℕ} → w ≡ wait_for r p → w ≡ wait_for r (day_code (facts_of g.day.0))
  wait-here r h = h ∙ ap (λ (p : ℕ). wait_for r p) code-here

  pub shown-here : (c : ShortMonth) (r : Rule) {t z : Bool} → t ≡ rule_shows c r p → t ≡ z → rule_shows c r (day_code (facts_of g.day.0)) ≡ z
  shown-here c r h k = ap (λ (p : ℕ). rule_shows c r p) (sym code-here) ∙ sym h ∙ k

module _ (c : ShortMonth) (r : Rule) where
  -- whether the rule shows on a day
  abbrev pub search-shown : ℕ → Bool
  search-shown d = rule_shows c r (day_code (facts_of d))

  -- none of the days from one on, up to a limit, shows
  abbrev pub Free : ℕ → ℕ → Type 0
  Free from end = (d : ℕ) → from ≤ d → d < end → search-shown d ≡ false

  pub free-join : {a b e : ℕ} → Free a b → Free b e → Free a e
  free-join {a} {b} {e} x y d l m = lt_elim {X = Unit {0}} (λ _. search-shown d ≡ false) d b tt tt (λ h. x d l h) (λ h. y d h m)

  -- before the first date
  pub free-before : {f g : DayFacts} → Reaches f r.first g → Free f.day.0 g.day.0
  free-before {f} {g} s d l m =
      let h = s.at.high in
      let k = facts_known d (omega arith) in
      shows_out c r _ (in_dates-before_first r _ (rw (day_code_holds k).date (s.before d l m)))

  pub free-start : {f g : DayFacts} {n : ℕ} → Reaches f r.first g → Free g.day.0 n → Free f.day.0 n
  free-start s x = free-join (free-before s) x

  -- after the last date
  pub free-after : (n : ℕ) → r.last < date_in (day_code (facts_of n)) → Free n (last_day + 1)
  free-after n h d l m =
      let e : n + (d - n) ≡ d = omega arith in
      rw e at (shows_out c r _ (date-past n (d - n) (omega arith) r h))

  -- until the wait is over
  pub free-wait : (n : ℕ) → search-shown n ≡ false → {e : ℕ} → e ≤ n + wait_for r (day_code (facts_of n)) → e ≤ last_day + 1 → Free n e
  free-wait n z {e} w h d l m =
      lt_elim {X = Unit {0}} (λ _. search-shown d ≡ false) n d tt tt
      (λ less. let q : n + (d - n) ≡ d = omega arith in rw q at (wait-not n (d - n) (omega arith) c r (omega arith) (omega arith)))
      (λ same. let q : n ≡ d = omega arith in rw q at z)
