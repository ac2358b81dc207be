-- Where that byte does not agree, the record does not fall.
-- Assumes nothing.
use Rattle.std.specs.Prelude.{ℕ, ◌≡◌, Bool, true, false, List}
use Rattle.std.proofs.Common.{◌∙◌}
use Rattle.prelude.specs.Choice.{if_eq}
use Rattle.prelude.proofs.Laws.Choice.{is_eq, is_ne, is_false, eq_elim, constructors_differ}
use Rattle.days.specs.declared.types.DayFacts.{DayFacts}
use Rattle.records.specs.Fields.{dated_of, weekly_of, monthly_by_date_of, monthly_by_position_of, yearly_of, record_of}
use Rattle.falls.specs.Falls.{dated_falls, weekly_falls, by_date_falls, by_position_falls, yearly_falls, falls}
use Rattle.falls.proofs.Laws.Falls.{falls_type}
use Rattle.falls.specs.Agrees.{agrees}
use Rattle.falls.specs.declared.types.ShortMonth.{ShortMonth}

-- a choice is false where another with the same test is
both_no : (a b : ℕ) (x y : Bool) {u v : Bool} → (x ≡ false → u ≡ false) → (y ≡ false → v ≡ false) → if_eq a b x y ≡ false → if_eq a b u v ≡ false
both_no a b x y {u} {v} p q =
    eq_elim (λ z. z ≡ false → if_eq a b u v ≡ false) a b x y (λ e h. is_eq e u v ∙ p h) (λ n h. is_ne n u v ∙ q h)

same_no : (a b : ℕ) (u : Bool) → if_eq a b true false ≡ false → if_eq a b u false ≡ false
same_no a b u = both_no a b true false {u = u} (λ e. absurd (true-not e)) (λ e. e)
  where
    true-not : true ≡ false → ⊥
    true-not e = constructors_differ cc

pub agrees_no : (c : ShortMonth) (f : DayFacts) (t : ℕ) (p : List ℕ) → agrees c f t p ≡ false → falls c f (record_of t p) ≡ false
unfolding agrees dated_falls dated_of weekly_falls weekly_of by_date_falls monthly_by_date_of by_position_falls monthly_by_position_of yearly_falls yearly_of
agrees_no c f t p h =
    falls_type c f t p
    ∙ both_no t 1 _ _ (same_no _ _ _)
    (both_no t 2 _ _ (same_no _ _ _)
    (both_no t 3 _ _ (λ e. is_false e _ _)
    (both_no t 4 _ _ (same_no _ _ _)
    (both_no t 5 _ _ (same_no _ _ _) (λ e. e))))) h
