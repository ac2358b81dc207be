-- Two days on which a rule of months shows lie at least 28 days apart, since no month is shorter.
-- Assumes nothing.
use Rattle.std.specs.Prelude.{◌≡◌, ℕ, ◌+◌, ◌*◌, ◌/◌, ◌<◌, ◌≤◌, true, false, ◌⊎◌, ◌≢◌}
use Rattle.std.proofs.Common.{sym, ◌∙◌, inl, inr, ⊎_elim, arith}
use Rattle.std.proofs.lemmas.Bool.{false≢true}
use Rattle.prelude.specs.Choice.{if_eq}
use Rattle.prelude.proofs.Laws.Choice.{lt_elim, eq_elim, eq_take}
use Rattle.days.specs.Days.{last_day}
use Rattle.days.specs.Facts.{facts_of}
use Rattle.day_steps.specs.Codes.{day_code, month_in, day_in, weekday_in, month_length_in}
use Rattle.day_steps.proofs.Laws.Codes.{held_day}
use Rattle.day_steps.proofs.Laws.Months.{in_month, over_month, in_length, length_least, weeks_apart}
use Rattle.falls.specs.declared.types.ShortMonth.{ShortMonth}
use Rattle.occurrences.specs.Rules.{missing_shows, day_shows, rule_shows}
use Rattle.occurrences.proofs.Laws.Rules.{on-by-date, on-by-position, on-yearly, on-other, shows-both}
use Rattle.occurrences.specs.declared.types.Rule.{Rule}

-- day and length of the month of one day and of another, i days later
record Near (i d l d' l' : ℕ) : Type 0 where
  one : 1 ≤ i
  less : i < 28
  inside : d ≤ l
  least : 28 ≤ l
  later : ((d' ≡ d + i) × (l' ≡ l)) ⊎ ((d' + l ≡ d + i) × (28 ≤ l'))

-- on day a, or on the month's last where it has no such day
abbrev OnDay : ℕ → ℕ → ℕ → Type 0
OnDay a d l = ((a ≤ l) × (d ≡ a)) ⊎ ((l < a) × (d ≡ l))

not_twice : {i d l d' l' : ℕ} (a : ℕ) → Near i d l d' l' → OnDay a d l → OnDay a d' l' → ⊥
not_twice a n x y =
    let o = n.one in
    let b = n.less in
    let e = n.inside in
    let f = n.least in
    ⊎_elim (λ m. ⊎_elim (λ u. ⊎_elim (λ v. omega arith) (λ v. omega arith) y) (λ u. ⊎_elim (λ v. omega arith) (λ v. omega arith) y) x)
    (λ m. ⊎_elim (λ u. ⊎_elim (λ v. omega arith) (λ v. omega arith) y) (λ u. ⊎_elim (λ v. omega arith) (λ v. omega arith) y) x) n.later

-- two of the same weekday are in different weeks of their months
not_same : {i d l d' l' : ℕ} → Near i d l d' l' → 7 * (i / 7) ≡ i → (d + 6) / 7 ≢ (d' + 6) / 7
not_same n s x =
    let o = n.one in
    let b = n.less in
    let e = n.inside in
    let f = n.least in
    ⊎_elim (λ m. omega arith) (λ m. omega arith) n.later

-- what a rule that shows says of the day
missing_shown : (c : ShortMonth) (p : ℕ) → missing_shows c p ≡ true → day_in p ≡ month_length_in p
unfolding missing_shows
missing_shown ShortMonth.Skip p e = absurd (false≢true e)
missing_shown ShortMonth.Last p e = (eq_take (day_in p) (month_length_in p) true false false≢true e).0

day_shown : (c : ShortMonth) (p a : ℕ) → day_shows c p a ≡ true → OnDay a (day_in p) (month_length_in p)
unfolding day_shows
day_shown c p a =
    lt_elim (λ z. z ≡ true → OnDay a (day_in p) (month_length_in p)) (month_length_in p) a _ _ (λ h e. inr (h, missing_shown c p e))
    (λ h e. inl (h, (eq_take (day_in p) a true false false≢true e).0))

-- two such days
module _ (n i : ℕ) (last : n + i ≤ last_day) (one : 1 ≤ i) (less : i < 28) where
  abbrev p : ℕ
  p = day_code (facts_of n)

  abbrev q : ℕ
  q = day_code (facts_of (n + i))

  near : Near i (day_in p) (month_length_in p) (day_in q) (month_length_in q)
  near =
      let a = held_day n (omega arith) in
      let b = held_day (n + i) last in
      let e = in_length n (omega arith) in
      let f = length_least n (omega arith) in
      record {
        one = one;
        less = less;
        inside = omega arith;
        least = omega arith;
        later =
            lt_elim {X = Unit {0}} (λ _. ((day_in q ≡ day_in p + i) × (month_length_in q ≡ month_length_in p)) ⊎ ((day_in q + month_length_in p ≡ day_in p + i) × (28 ≤ month_length_in q)))
            (facts_of n).length ((facts_of n).date.day + i) tt tt
            (λ h. let o = over_month n i h less in inr (omega arith))
            (λ h. let l = in_month n i h in inl (omega arith));
      }

  position-apart : (a b : ℕ) → if_eq (weekday_in p) a (if_eq ((day_in p + 6) / 7) b true false) false ≡ true → if_eq (weekday_in q) a (if_eq ((day_in q + 6) / 7) b true false) false ≢ true
  position-apart a b e f =
      let x = eq_take (weekday_in p) a _ _ false≢true e in
      let y = eq_take (weekday_in q) a _ _ false≢true f in
      let u = (eq_take ((day_in p + 6) / 7) b true false false≢true x.1).0 in
      let v = (eq_take ((day_in q + 6) / 7) b true false false≢true y.1).0 in
      let w = sym (held_day n (omega arith)).weekday ∙ x.0 ∙ sym y.0 ∙ (held_day (n + i) last).weekday in
      not_same near (weeks_apart n i w) (u ∙ sym v)

  -- a rule of months shows on one of them at most
  pub months-apart : (c : ShortMonth) (r : Rule) → (r.kind ≢ 1) → (r.kind ≢ 2) → rule_shows c r p ≡ true → rule_shows c r q ≢ true
  months-apart c r n1 n2 e f =
      let x = (shows-both c r p e).0 in
      let y = (shows-both c r q f).0 in
      eq_elim {X = Unit {0}} (λ _. ⊥) r.kind 3 tt tt
      (λ k. not_twice r.a near (day_shown c p r.a (sym (on-by-date c r p k) ∙ x)) (day_shown c q r.a (sym (on-by-date c r q k) ∙ y)))
      (λ n3. eq_elim {X = Unit {0}} (λ _. ⊥) r.kind 4 tt tt
      (λ k. position-apart r.a r.b (sym (on-by-position c r p k) ∙ x) (sym (on-by-position c r q k) ∙ y))
      (λ n4. eq_elim {X = Unit {0}} (λ _. ⊥) r.kind 5 tt tt
      (λ k.
      let u = (eq_take (month_in p) r.a _ _ false≢true (sym (on-yearly c r p k) ∙ x)).1 in
      let v = (eq_take (month_in q) r.a _ _ false≢true (sym (on-yearly c r q k) ∙ y)).1 in
      not_twice r.b near (day_shown c p r.b u) (day_shown c q r.b v))
      (λ n5. false≢true (sym (on-other c r p n1 n2 n3 n4 n5) ∙ x))))
