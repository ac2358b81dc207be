-- The steps of a walk: a record of it is so many steps on, and the steps that stay in range are the walk.
-- Assumes nothing.
use Prim.Native.Nat.{ℕ, zero, suc, ◌<◌, ◌≤◌}
use Rattle.std.specs.Prelude.{◌≡◌}
use Rattle.std.proofs.Math.Path.{refl, ap}
use Rattle.std.proofs.Common.{sym, ◌∙◌, arith}
use Rattle.std.proofs.Math.Logic.{⊎_elim}
use mathlib.Core.List.Memᴰ
use mathlib.Core.List.{List, [], ◌∷◌, Memᴰ}
use Rattle.std.proofs.Math.ListN.{length}
use Rattle.prelude.proofs.Laws.Choice.{is_lt, is_ge, lt_elim}
use Rattle.chains.specs.Chains.{field_of, no_record, walk}
use Rattle.chains.specs.Shown.{after, steps}
use Rattle.chains.specs.Stages.{StepsIn, EndsIn, ahead}
use Rattle.chains.proofs.Laws.Runs.{run_of}

-- `after` is a run
pub run_of_after : (previous next : List ℕ) (r j : ℕ) → run_of (field_of previous) (field_of next) no_record r j ≡ after next r j
unfolding after
run_of_after previous next r zero = refl
run_of_after previous next r (suc j) = ap (field_of next) (run_of_after previous next r j)

module _ (next : List ℕ) where
  shift : (r j : ℕ) → after next (field_of next r) j ≡ after next r (suc j)
  unfolding after
  shift r zero = refl
  shift r (suc j) = ap (field_of next) (shift r j)

  -- of the steps from r on, the first, and those from the next on
  first_step : (r j : ℕ) → field_of next r < length next → StepsIn next (field_of next r) j → StepsIn next r (suc j)
  unfolding after
  first_step r j h s zero l = h
  first_step r j h s (suc i) l = rw (sym (shift r i)) (s i (omega arith))

  later-steps : (r j : ℕ) → StepsIn next r (suc j) → StepsIn next (field_of next r) j
  later-steps r j s i l = rw (shift r i) (s (suc i) (omega arith))

  pub steps-in-suc : (r k : ℕ) → StepsIn next r k → field_of next (after next r k) < length next → StepsIn next r (suc k)
  steps-in-suc r k s u x y =
      lt_elim {X = Unit {0}} (λ _. field_of next (after next r x) < length next) x k tt tt (λ a. s x a)
      (λ a. let z : x ≡ k = omega arith in rw z u)

  -- x is reached from r in fewer than k steps
  pub record Reached (k r x : ℕ) : Type 0 where
    pub j : ℕ
    pub short : j < k
    pub is : x ≡ after next r j
    pub steps : StepsIn next r j

  pub walk-reached : (k r x : ℕ) → Memᴰ x (walk k next r) → Reached k r x
  unfolding walk after
  walk-reached zero r x m = absurd (Memᴰ.not-nil m)
  walk-reached (suc k) r x m =
      ⊎_elim (λ (e : x ≡ r). record { j = 0; short = omega arith; is = e; steps = λ i l. absurd (omega arith) })
      (lt_elim (λ l. Memᴰ x l → Reached (suc k) r x) (field_of next r) (length next) (walk k next (field_of next r)) []
      (λ h q.
      let w = walk-reached k (field_of next r) x q in
      record { j = suc w.j; short = omega (arith, w.short); is = w.is ∙ shift r w.j; steps = first_step r w.j h w.steps })
      (λ h q. absurd (Memᴰ.not-nil q)))
      (Memᴰ.cases_cons m)

  pub reached-walk : (k r j : ℕ) → j < k → StepsIn next r j → Memᴰ (after next r j) (walk k next r)
  unfolding walk after
  reached-walk zero r j h s = absurd (omega arith)
  reached-walk (suc k) r zero h s = Memᴰ.head refl
  reached-walk (suc k) r (suc j) h s =
      let l : field_of next r < length next = s 0 (omega arith) in
      let m = reached-walk k (field_of next r) j (omega arith) (later-steps r j s) in
      rw (is_lt l) (Memᴰ.tail (rw (shift r j) at m))

  -- a walk whose first j steps stay in range, and the next does not
  pub walk_steps : (k r j : ℕ) → j < k → StepsIn next r j → length next ≤ field_of next (after next r j) → walk k next r ≡ steps (suc j) next r
  unfolding walk after steps
  walk_steps zero r j h s e = absurd (omega arith)
  walk_steps (suc k) r zero h s e = ap (λ (rs : List ℕ). r ∷ rs) (is_ge e _ _)
  walk_steps (suc k) r (suc j) h s e =
      let l : field_of next r < length next = s 0 (omega arith) in
      let q : length next ≤ field_of next (after next (field_of next r) j) = rw (shift r j) e in
      ap (λ (rs : List ℕ). r ∷ rs) (is_lt l _ _ ∙ walk_steps k (field_of next r) j (omega arith) (later-steps r j s) q)

-- a walk that ends, one record at a time
module _ (next : List ℕ) (r : ℕ) (e : EndsIn next r (length next)) where
  walk-ahead : walk (length next) next r ≡ r ∷ ahead next (field_of next r)
  unfolding after steps
  walk-ahead = by e.count e.within e.steps e.out
    where
      by : (m : ℕ) → m < length next → StepsIn next r m → length next ≤ field_of next (after next r m) → walk (length next) next r ≡ r ∷ ahead next (field_of next r)
      by zero l s o = walk_steps next (length next) r zero l s o ∙ ap (λ (rs : List ℕ). r ∷ rs) (sym (is_ge o _ _))
      by (suc m) l s o =
          let q : length next ≤ field_of next (after next (field_of next r) m) = rw (shift next r m) o in
          walk_steps next (length next) r (suc m) l s o
          ∙ ap (λ (rs : List ℕ). r ∷ rs) (sym (is_lt (s 0 (omega arith)) _ _ ∙ walk_steps next (length next) (field_of next r) m (omega arith) (later-steps next r m s) q))

  pub ahead-next : ahead next r ≡ r ∷ ahead next (field_of next r)
  ahead-next = is_lt e.from _ _ ∙ walk-ahead

  pub ahead-less : length (ahead next (field_of next r)) < length (ahead next r)
  ahead-less = rw ahead-next (omega arith)

  pub ends_next : field_of next r < length next → EndsIn next (field_of next r) (length next)
  unfolding after
  ends_next l = by e.count e.within e.steps e.out
    where
      by : (m : ℕ) → m < length next → StepsIn next r m → length next ≤ field_of next (after next r m) → EndsIn next (field_of next r) (length next)
      by zero k s o = absurd (omega arith)
      by (suc m) k s o =
          record { from = l; count = m; within = omega arith; steps = later-steps next r m s; out = rw (shift next r m) o }
