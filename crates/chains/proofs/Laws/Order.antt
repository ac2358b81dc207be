-- Kinds, minutes and order: a chain that is judged fine is sorted, with good values, and such a chain is judged fine.
-- Assumes nothing.
use Rattle.std.specs.Prelude.{Ok, ℕ, ◌≤◌, ◌≡◌, Bool, false}
use Rattle.std.proofs.Math.Path.{refl, sym}
use Rattle.std.proofs.Common.{◌∙◌}
use Rattle.std.proofs.Math.Bool.{true≢false}
use Rattle.std.proofs.Math.Logic.{⊎_elim}
use mathlib.Core.List.Memᴰ
use mathlib.Core.List.{List, [], ◌∷◌, Memᴰ}
use Rattle.prelude.proofs.Laws.Choice.{is_ge, is_eq, is_false, eq_elim, lt_skip, b_skip}
use Rattle.prelude.proofs.Laws.Refusals.{refused_not_fine}
use Rattle.chains.specs.Chains.{field_of, values_bad, misplaced, ordered_after, ordered}
use Rattle.chains.specs.Valid.{InRange, InOrder, SortedAfter, ChainSorted}

pub good_values : (k m : ℕ) → values_bad k m ≡ false → (k ≤ 2) × (k ≡ 1 → m ≤ 1439)
unfolding values_bad
good_values k m e =
    let a = lt_skip 2 k _ _ true≢false e in
    (a.0, λ z. (lt_skip 1439 m _ _ true≢false (sym (is_eq z _ _) ∙ a.1)).0)

values_good : (k m : ℕ) → (k ≤ 2) × (k ≡ 1 → m ≤ 1439) → values_bad k m ≡ false
unfolding values_bad
values_good k m f = is_ge f.0 _ _ ∙ eq_elim (λ b. b ≡ false) k 1 _ _ (λ z. is_ge (f.1 z) _ _) (λ _. refl)

module _ (kind minute : List ℕ) where
  abbrev out : ℕ → ℕ → Bool
  out q r = misplaced (field_of kind q) (field_of minute q) (field_of kind r) (field_of minute r)

  placed : (q r : ℕ) → out q r ≡ false → InOrder kind minute q r
  unfolding misplaced
  placed q r e =
      let a = lt_skip (field_of kind r) (field_of kind q) _ _ true≢false e in
      record {
        kinds = a.0;
        times = λ x y. (lt_skip (field_of minute r) (field_of minute q) _ _ true≢false (sym (is_eq y _ _) ∙ sym (is_eq x _ _) ∙ a.1)).0;
      }

  order-placed : (q r : ℕ) → InOrder kind minute q r → out q r ≡ false
  unfolding misplaced
  order-placed q r o =
      is_ge o.kinds _ _
      ∙ eq_elim (λ b. b ≡ false) (field_of kind q) 1 _ _
      (λ x. eq_elim (λ b. b ≡ false) (field_of kind r) 1 _ _ (λ y. is_ge (o.times x y) _ _) (λ _. refl)) (λ _. refl)

  -- along what follows a record, and along a chain
  after_sorted : (q : ℕ) (rs : List ℕ) → ordered_after kind minute q rs ≡ Ok tt → ((r : ℕ) → Memᴰ r rs → InRange kind minute r) × SortedAfter kind minute q rs
  unfolding ordered_after SortedAfter
  after_sorted q [] e = (λ r m. absurd (Memᴰ.not-nil m), tt)
  after_sorted q (r ∷ rs) e =
      let a = b_skip (values_bad (field_of kind r) (field_of minute r)) _ _ refused_not_fine e in
      let b = b_skip (out q r) _ _ refused_not_fine a.1 in
      let s = after_sorted r rs b.1 in
      (λ x m. ⊎_elim (λ (z : x ≡ r). rw z (good_values _ _ a.0)) (λ z. s.0 x z) (Memᴰ.cases_cons m), (placed q r b.0, s.1))

  pub chain-sorted : (rs : List ℕ) → ordered kind minute rs ≡ Ok tt → ((r : ℕ) → Memᴰ r rs → InRange kind minute r) × ChainSorted kind minute rs
  unfolding ordered ChainSorted
  chain-sorted [] e = (λ r m. absurd (Memᴰ.not-nil m), tt)
  chain-sorted (r ∷ rs) e =
      let a = b_skip (values_bad (field_of kind r) (field_of minute r)) _ _ refused_not_fine e in
      let s = after_sorted r rs a.1 in
      (λ x m. ⊎_elim (λ (z : x ≡ r). rw z (good_values _ _ a.0)) (λ z. s.0 x z) (Memᴰ.cases_cons m), s.1)

  sorted_after : (q : ℕ) (rs : List ℕ) → ((r : ℕ) → Memᴰ r rs → InRange kind minute r) → SortedAfter kind minute q rs → ordered_after kind minute q rs ≡ Ok tt
  unfolding ordered_after SortedAfter
  sorted_after q [] f s = refl
  sorted_after q (r ∷ rs) f s =
      is_false (values_good _ _ (f r (Memᴰ.head refl))) _ _ ∙ is_false (order-placed q r s.0) _ _
      ∙ sorted_after r rs (λ x m. f x (Memᴰ.tail m)) s.1

  pub sorted-chain : (rs : List ℕ) → ((r : ℕ) → Memᴰ r rs → InRange kind minute r) → ChainSorted kind minute rs → ordered kind minute rs ≡ Ok tt
  unfolding ordered ChainSorted
  sorted-chain [] f s = refl
  sorted-chain (r ∷ rs) f s =
      is_false (values_good _ _ (f r (Memᴰ.head refl))) _ _ ∙ sorted_after r rs (λ x m. f x (Memᴰ.tail m)) s
