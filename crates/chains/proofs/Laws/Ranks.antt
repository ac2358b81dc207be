-- Ranks say what the definition says: a record's is 0 just where its values are bad, and of two others the later is lower
-- just where it is misplaced.
-- Assumes nothing.
use Rattle.std.specs.Prelude.{Ok, ℕ, ◌+◌, ◌<◌, ◌≤◌, ◌≡◌, Bool, length}
use Rattle.std.proofs.Math.Path.{refl, sym, ap}
use Rattle.std.proofs.Common.{◌∙◌, true≢false, arith}
use Rattle.std.proofs.Math.Bool.{true, false}
use mathlib.Core.List.{List, [], ◌∷◌}
use Rattle.prelude.specs.Choice.{if_lt, if_b}
use Rattle.prelude.proofs.Laws.Choice.{is_lt, is_ge, is_eq, is_ne, is_true, is_false, bool_cases, lt_elim, eq_elim, lt_choice}
use Rattle.prelude.specs.Refusals.{bad_chain_order}
use Rattle.prelude.specs.Verdicts.{refused}
use Rattle.chains.specs.Chains.{field_of, values_bad, misplaced, ordered_after, ordered}
use Rattle.chains.specs.Ranks.{rank, ranked}
use Rattle.chains.specs.Stages.{EndsIn, ahead}
use Rattle.chains.proofs.Laws.Order.{good_values}
use Rattle.chains.proofs.Laws.Steps.{ahead-next}

-- bad values
bad_rank : (k m : ℕ) → values_bad k m ≡ true → rank k m ≡ 0
unfolding values_bad rank
bad_rank k m =
    lt_elim (λ b. b ≡ true → rank k m ≡ 0) 2 k _ _
    (λ l e. is_ne (λ z. omega arith) _ _ ∙ is_ne (λ z. omega arith) _ _ ∙ is_ne (λ z. omega arith) _ _)
    (λ l. eq_elim (λ b. b ≡ true → rank k m ≡ 0) k 1 _ _
    (λ o. lt_elim (λ b. b ≡ true → rank k m ≡ 0) 1439 m _ _ (λ h e. is_eq o _ _ ∙ is_lt h _ _) (λ h e. absurd (true≢false (sym e))))
    (λ o e. absurd (true≢false (sym e))))

-- values that are not bad, and their rank
record Ranked (k m : ℕ) : Type 0 where
  known : k ≤ 2
  event : k ≡ 0 → rank k m ≡ 1
  appointment : k ≡ 1 → (m ≤ 1439) × (rank k m ≡ m + 2)
  to_do_lem : k ≡ 2 → rank k m ≡ 1442

good_rank : (k m : ℕ) → values_bad k m ≡ false → Ranked k m
unfolding rank
good_rank k m e =
    let a = good_values k m e in
    record {
      known = a.0;
      event = λ z. is_ne (λ y. omega arith) _ _ ∙ is_eq z _ _;
      appointment = λ z. (a.1 z, is_eq z _ _ ∙ is_ge (a.1 z) _ _);
      to_do_lem = λ z. is_ne (λ y. omega arith) _ _ ∙ is_ne (λ y. omega arith) _ _ ∙ is_eq z _ _;
    }

some-rank : (k m : ℕ) → Ranked k m → 0 < rank k m
some-rank k m x =
    eq_elim {X = Unit {0}} (λ _. 0 < rank k m) k 0 tt tt (λ z. omega (arith, x.event z))
    (λ y. eq_elim {X = Unit {0}} (λ _. 0 < rank k m) k 1 tt tt (λ z. omega (arith, (x.appointment z).1))
    (λ z. omega (arith, x.to_do_lem (omega (arith, x.known)))))

-- kind l at minute n after kind k at minute m, none of them bad
module _ (k m l n : ℕ) (x : Ranked k m) (y : Ranked l n) where
  below : l < k → rank l n < rank k m
  below a =
      eq_elim {X = Unit {0}} (λ _. rank l n < rank k m) l 0 tt tt
      (λ e. eq_elim {X = Unit {0}} (λ _. rank l n < rank k m) k 1 tt tt
      (λ f. omega (arith, (x.appointment f).1, y.event e))
      (λ f. omega (arith, x.to_do_lem (omega (arith, x.known)), y.event e)))
      (λ e. let f : l ≡ 1 = omega (arith, x.known) in omega (arith, x.to_do_lem (omega (arith, x.known)), (y.appointment f).0, (y.appointment f).1))

  above : k ≤ l → (k ≡ 1 → ⊥) → rank k m ≤ rank l n
  above a e =
      eq_elim {X = Unit {0}} (λ _. rank k m ≤ rank l n) k 0 tt tt
      (λ f. omega (arith, x.event f, some-rank l n y))
      (λ f. let g : k ≡ 2 = omega (arith, x.known) in omega (arith, x.to_do_lem g, y.to_do_lem (omega (arith, y.known))))

  rank-order : if_lt (rank l n) (rank k m) true false ≡ misplaced k m l n
  unfolding misplaced
  rank-order =
      lt_elim (λ b. if_lt (rank l n) (rank k m) true false ≡ b) l k _ _
      (λ a. is_lt (below a) _ _)
      (λ a. eq_elim (λ b. if_lt (rank l n) (rank k m) true false ≡ b) k 1 _ _
      (λ e. eq_elim (λ b. if_lt (rank l n) (rank k m) true false ≡ b) l 1 _ _
      (λ f. let p = (x.appointment e).1 in let q = (y.appointment f).1 in
      lt_elim (λ b. if_lt (rank l n) (rank k m) true false ≡ b) n m _ _ (λ c. is_lt (omega (arith, p, q)) _ _) (λ c. is_ge (omega (arith, p, q)) _ _))
      (λ f. is_ge (omega (arith, (x.appointment e).0, (x.appointment e).1, y.to_do_lem (omega (arith, y.known)))) _ _))
      (λ e. is_ge (above a e) _ _))

module _ (kind minute : List ℕ) where
  abbrev rank_of : ℕ → ℕ
  rank_of r = rank (field_of kind r) (field_of minute r)

  abbrev values_of : ℕ → Bool
  values_of r = values_bad (field_of kind r) (field_of minute r)

  -- after a record of good values
  after-ranked : (q : ℕ) (rs : List ℕ) → values_of q ≡ false → ordered_after kind minute q rs ≡ ranked kind minute (rank_of q) rs
  unfolding ordered_after ranked
  after-ranked q [] g = refl
  after-ranked q (r ∷ rs) g =
      let x = good_rank (field_of kind q) (field_of minute q) g in
      bool_cases (values_of r)
      (λ e. is_true e _ _ ∙ sym (is_lt (omega (arith, bad_rank (field_of kind r) (field_of minute r) e, some-rank (field_of kind q) (field_of minute q) x)) _ _))
      (λ e.
      let y = good_rank (field_of kind r) (field_of minute r) e in
      let o = rank-order (field_of kind q) (field_of minute q) (field_of kind r) (field_of minute r) x y in
      is_false e _ _ ∙ ap (λ (b : Bool). if_b b (refused bad_chain_order r) (ordered_after kind minute r rs)) (sym o)
      ∙ lt_choice (rank_of r) (rank_of q) _ _ ∙ ap (if_lt (rank_of r) (rank_of q) (refused bad_chain_order r)) (after-ranked r rs e))

  -- a chain, before whose first record any rank but 0 may stand
  pub ordered-ranked : (rs : List ℕ) → ordered kind minute rs ≡ ranked kind minute 1 rs
  unfolding ordered ranked
  ordered-ranked [] = refl
  ordered-ranked (r ∷ rs) =
      bool_cases (values_of r)
      (λ e. is_true e _ _ ∙ sym (is_lt (omega (arith, bad_rank (field_of kind r) (field_of minute r) e)) _ _))
      (λ e.
      let y = good_rank (field_of kind r) (field_of minute r) e in
      is_false e _ _ ∙ after-ranked r rs e ∙ sym (is_ge (some-rank (field_of kind r) (field_of minute r) y) _ _))

  -- along what is left of a walk that ends, at a record of rank x: out of order, in order, none left
  module _ (next : List ℕ) (low r : ℕ) where
    module _ (e : EndsIn next r (length next)) {x : ℕ} (q : x ≡ rank_of r) where
      pub ranks-bad : x < low → ranked kind minute low (ahead next r) ≡ refused bad_chain_order r
      unfolding ranked
      ranks-bad l = ap (ranked kind minute low) (ahead-next next r e) ∙ is_lt (omega (arith, q)) _ _

      pub ranks-on : low ≤ x → ranked kind minute low (ahead next r) ≡ ranked kind minute x (ahead next (field_of next r))
      unfolding ranked
      ranks-on l =
          ap (ranked kind minute low) (ahead-next next r e) ∙ is_ge (omega (arith, q)) _ _
          ∙ ap (λ (m : ℕ). ranked kind minute m (ahead next (field_of next r))) (sym q)

    pub ranks-none : length next ≤ r → ranked kind minute low (ahead next r) ≡ Ok tt
    unfolding ranked
    ranks-none l = ap (ranked kind minute low) (is_ge l _ _)
