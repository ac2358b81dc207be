-- Laws of the search: its turns, and what its answers say.
-- Assumes nothing.
use Prim.Native.Nat.{ℕ, zero, suc, ◌+◌, ◌-◌, ◌<◌, ◌≤◌}
use Rattle.std.specs.Prelude.{◌≡◌, Bool, true, false}
use Rattle.std.proofs.Math.Path.{refl, ap}
use Rattle.std.proofs.Common.{◌∙◌, add-zero}
use native.Mathlib.Omega.{arith}
use Rattle.prelude.specs.Choice.{if_lt}
use Rattle.prelude.proofs.Laws.Choice.{is_true, is_false, b_elim, lt_elim}
use Rattle.days.specs.Days.{last_day}
use Rattle.occurrences.specs.Next.{Next}
use Rattle.pages.specs.Next.{found_on, none_from, first_shown, next_of, Told}
use Rattle.pages.specs.declared.types.Search.{Search}

module _ (p : ℕ → Bool) (asked : ℕ) where
  -- what is still to be looked at from day d on
  abbrev pub from : ℕ → Search
  from d = first_shown p asked (last_day + 1 - d) d

  turn : (d : ℕ) → d ≤ last_day → from d ≡ first_shown p asked (suc (last_day - d)) d
  turn d h = let e : last_day + 1 - d ≡ suc (last_day - d) = omega arith in rw e

  pub from_found : (d : ℕ) → d ≤ last_day → p d ≡ true → from d ≡ found_on asked d
  unfolding first_shown
  from_found d h e = turn d h ∙ is_true e _ _

  pub from_next : (d : ℕ) → d ≤ last_day → p d ≡ false → from d ≡ from (suc d)
  unfolding first_shown
  from_next d h e = turn d h ∙ is_false e _ _ ∙ let k : last_day - d ≡ last_day + 1 - suc d = omega arith in rw k

  -- past days that fail
  from_past : (k d : ℕ) → d + k ≤ last_day + 1 → ((b : ℕ) → d ≤ b → b < d + k → p b ≡ false) → from d ≡ from (d + k)
  from_past zero d h z = rw (add-zero d)
  from_past (suc k) d h z =
      let e : suc d + k ≡ d + suc k = omega arith in
      from_next d (omega arith) (z d (omega arith) (omega arith)) ∙ from_past k (suc d) (omega arith) (λ b l m. z b (omega arith) (omega arith)) ∙ ap from e

  from_end : from (last_day + 1) ≡ none_from asked
  unfolding first_shown
  from_end = refl

  -- the search by the first day that passes, however it was found
  pub next-of-first : {n : ℕ} → asked ≤ last_day → Next p asked (last_day + 1) n → next_of p asked ≡ if_lt n (last_day + 1) (found_on asked n) (none_from asked)
  unfolding next_of
  next-of-first {n} h x =
      let low = x.low in
      let high = x.high in
      let e : asked + (n - asked) ≡ n = omega arith in
      from_past (n - asked) asked (omega arith) (λ b l m. x.none b l (omega arith)) ∙ ap from e
      ∙ lt_elim (λ z. from n ≡ z) n (last_day + 1) _ _ (λ l. from_found n (omega arith) (x.hit l)) (λ g. let q : n ≡ last_day + 1 = omega arith in ap from q ∙ from_end)

-- tests that agree on the days left find the same
first_same : (p q : ℕ → Bool) (asked k d : ℕ) → d + k ≡ last_day + 1 → ((b : ℕ) → b ≤ last_day → p b ≡ q b) → first_shown p asked k d ≡ first_shown q asked k d
unfolding first_shown
first_same p q asked zero d e h = refl
first_same p q asked (suc k) d e h = rw (h d (omega arith), first_same p q asked k (suc d) (omega arith) h)

pub next_same : (p q : ℕ → Bool) (asked : ℕ) → asked ≤ last_day → ((d : ℕ) → d ≤ last_day → p d ≡ q d) → next_of p asked ≡ next_of q asked
unfolding next_of
next_same p q asked h e = first_same p q asked (last_day + 1 - asked) asked (omega arith) e

told_from :
    (p : ℕ → Bool) (asked k d : ℕ) → asked ≤ d → d + k ≡ last_day + 1 → ((b : ℕ) → asked ≤ b → b < d → p b ≡ false)
    → Told p asked (first_shown p asked k d)
unfolding first_shown
told_from p asked zero d l e h = (λ b m n. h b m (omega arith), refl)
told_from p asked (suc k) d l e h =
    b_elim (Told p asked) (p d) _ _
    (λ t. (record { at = l; most = omega arith; passes = t; none = h }, refl))
    (λ t. told_from p asked k (suc d) (omega arith) (omega arith)
    (λ b m n. lt_elim {X = Unit {0}} (λ _. p b ≡ false) b d tt tt (λ i. h b m i) (λ i. let q : b ≡ d = omega arith in ap p q ∙ t)))

-- the search tells the truth: the first day that passes, or that none does
pub next_told : (p : ℕ → Bool) (asked : ℕ) → asked ≤ last_day → Told p asked (next_of p asked)
unfolding next_of
next_told p asked h = told_from p asked (last_day + 1 - asked) asked (omega arith) (omega arith) (λ b m n. absurd (omega arith))
