-- From one day that passes to the next: nothing happens between. Tests that agree on the days do the same.
-- Assumes nothing.
use Prim.Native.Nat.{ℕ, zero, suc, ◌+◌, ◌-◌, ◌<◌, ◌≤◌}
use Rattle.std.specs.Prelude.{◌≡◌, Bool, true, false, List, length, get_or, set}
use Rattle.std.proofs.Math.Path.{refl}
use Rattle.std.proofs.Common.{sym, ap, ◌∙◌, arith, add-zero, length-set, get_or-set_same, get_or-set_other}
use Rattle.prelude.specs.Choice.{if_b}
use Rattle.prelude.proofs.Laws.Choice.{is_true, is_false, lt_elim}
use Rattle.prelude.specs.Splice.{splice}
use Rattle.calendar_writer.specs.Scatter.{Added, scatter}

module _ (p : ℕ → Bool) where
  -- adding
  pub added_none : {w j : ℕ} {old : List ℕ} → ((k : ℕ) → k < j → p k ≡ false) → Added p w j old old
  added_none {w} {j} {old} h = record { long = refl; behind = λ k l. rw (is_false (h k l) w 0) (sym (add-zero (get_or old k 0))); ahead = λ k l. refl }

  pub added-hit :
      {w j n : ℕ} {old new : List ℕ} {v : ℕ} → Added p w j old new → j < length new → p j ≡ true → v ≡ get_or new j 0 + w
      → j < n → ((k : ℕ) → j + 1 ≤ k → k < n → p k ≡ false) → Added p w n old (set new j v)
  added-hit {w} {j} {n} {old} {new} {v} a inside hit e less none =
      record {
        long = length-set new j v ∙ a.long;
        behind =
            λ k l.
            lt_elim {X = Unit {0}} (λ _. get_or (set new j v) k 0 ≡ get_or old k 0 + if_b (p k) w 0) k j tt tt
            (λ h. get_or-set_other new j k v 0 (λ q. omega arith) ∙ a.behind k h)
            (λ h. lt_elim {X = Unit {0}} (λ _. get_or (set new j v) k 0 ≡ get_or old k 0 + if_b (p k) w 0) j k tt tt
            (λ m. get_or-set_other new j k v 0 (λ q. omega arith) ∙ a.ahead k h ∙ sym (ap (λ (x : ℕ). get_or old k 0 + x) (is_false (none k (omega arith) l) w 0) ∙ add-zero _))
            (λ m. let q : k ≡ j = omega arith in rw q (get_or-set_same new j v 0 inside ∙ e ∙ rw (a.ahead j (omega arith), is_true hit))));
        ahead = λ k l. get_or-set_other new j k v 0 (λ q. omega arith) ∙ a.ahead k (omega arith);
      }

  -- putting
  module _ (piece places : List ℕ) where
    pub scatter-end : (k : ℕ) (out : List ℕ) → scatter 0 p piece places k out ≡ out
    unfolding scatter
    scatter-end k out = refl

    pub scatter-no : (m k : ℕ) (out : List ℕ) → p k ≡ false → scatter (suc m) p piece places k out ≡ scatter m p piece places (suc k) out
    unfolding scatter
    scatter-no m k out h = rw (is_false h)

    pub scatter-yes : (m k : ℕ) (out : List ℕ) → p k ≡ true → scatter (suc m) p piece places k out ≡ scatter m p piece places (suc k) (splice out (get_or places k 0) piece)
    unfolding scatter
    scatter-yes m k out h = rw (is_true h)

    skip : (i m k : ℕ) (out : List ℕ) → ((j : ℕ) → k ≤ j → j < k + i → p j ≡ false) → scatter (i + m) p piece places k out ≡ scatter m p piece places (k + i) out
    skip zero m k out h =
        let e : 0 + m ≡ m = omega arith in
        rw (e, add-zero k) refl
    skip (suc i) m k out h =
        let e : suc i + m ≡ suc (i + m) = omega arith in
        let f : k + suc i ≡ suc k + i = omega arith in
        rw (e, f) (scatter-no (i + m) k out (h k (omega arith) (omega arith)) ∙ skip i m (suc k) out (λ j a b. h j (omega arith) (omega arith)))

    -- from day j to day n, with `end` days in all
    pub scatter-skip : {j n end : ℕ} (out : List ℕ) → j ≤ n → n ≤ end → ((k : ℕ) → j ≤ k → k < n → p k ≡ false) → scatter (end - j) p piece places j out ≡ scatter (end - n) p piece places n out
    scatter-skip {j} {n} {end} out a b h =
        let e : end - j ≡ (n - j) + (end - n) = omega arith in
        let f : j + (n - j) ≡ n = omega arith in
        ap (λ (m : ℕ). scatter m p piece places j out) e
        ∙ skip (n - j) (end - n) j out (λ k l m. h k l (omega arith))
        ∙ ap (λ (q : ℕ). scatter (end - n) p piece places q out) f

    pub scatter-hit : {j end : ℕ} (out : List ℕ) → j < end → p j ≡ true → scatter (end - j) p piece places j out ≡ scatter (end - (j + 1)) p piece places (j + 1) (splice out (get_or places j 0) piece)
    scatter-hit {j} {end} out a h =
        let e : end - j ≡ suc (end - (j + 1)) = omega arith in
        let f : j + 1 ≡ suc j = omega arith in
        rw (e, f) (scatter-yes _ j out h)

    pub scatter-first : {n end : ℕ} (out : List ℕ) → n ≤ end → ((k : ℕ) → 0 ≤ k → k < n → p k ≡ false) → scatter end p piece places 0 out ≡ scatter (end - n) p piece places n out
    scatter-first {n} {end} out b h =
        let e : end ≡ end - 0 = omega arith in
        ap (λ (m : ℕ). scatter m p piece places 0 out) e ∙ scatter-skip out (omega arith) b h

-- tests that agree on the days do the same
module _ {p q : ℕ → Bool} where
  pub added-same : {w n : ℕ} {old new : List ℕ} → ((k : ℕ) → k < n → p k ≡ q k) → Added p w n old new → Added q w n old new
  added-same {w} {old} e a = record { long = a.long; behind = λ k l. a.behind k l ∙ ap (λ (t : Bool). get_or old k 0 + if_b t w 0) (e k l); ahead = a.ahead }

  pub scatter-same :
      (piece places : List ℕ) (m k : ℕ) (out : List ℕ) → ((j : ℕ) → k ≤ j → j < k + m → p j ≡ q j)
      → scatter m p piece places k out ≡ scatter m q piece places k out
  unfolding scatter
  scatter-same piece places zero k out e = refl
  scatter-same piece places (suc m) k out e =
      rw (e k (omega arith) (omega arith)) (scatter-same piece places m (suc k) _ (λ j a b. e j (omega arith) (omega arith)))
