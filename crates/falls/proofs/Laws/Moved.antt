-- Laws of the answers no, own and moved: each is true, they show just where `falls` says so, and only two kinds under last are moved.
-- Assumes nothing.
use Rattle.std.specs.Prelude.{ℕ, ◌<◌, ◌≡◌, refl, List}
use Rattle.std.proofs.Common.{sym, ◌∙◌, arith}
use Rattle.std.proofs.Math.Bool.{true, false, true≢false, false≢true}
use Rattle.prelude.specs.Bytes.{byte}
use Rattle.prelude.specs.Choice.{if_lt, if_eq, if_b}
use Rattle.prelude.proofs.Laws.Choice.{constructors_differ, is_lt, is_ge, is_eq, is_ne, is_true, is_false, bool_cases, eq_elim, b_elim, lt_skip, lt_take, eq_take, b_take}
use Rattle.days.specs.declared.types.DayFacts.{DayFacts}
use Rattle.records.specs.Fields.{monthly_by_date_of, yearly_of, record_of}
use Rattle.records.specs.declared.types.Dated.{Dated}
use Rattle.records.specs.declared.types.MonthlyByPosition.{MonthlyByPosition}
use Rattle.records.specs.declared.types.ToDo.{ToDo}
use Rattle.records.specs.declared.types.Weekly.{Weekly}
use Rattle.records.specs.declared.types.Record.{Record}
use Rattle.falls.specs.Falls.{on_missing_day, on_day, by_date_falls, yearly_falls, falls}
use Rattle.falls.proofs.Laws.Falls.{by_type}
use Rattle.falls.specs.Moved.{named_day, day_missing, falling, is_showing, OnNamedDay, NamesMissing, Says}
use Rattle.falls.specs.declared.types.ShortMonth.{ShortMonth}
use Rattle.falls.specs.declared.types.Falling.{Falling}

-- "treat moved as a showing": what asks `falls` does
pub falling_shows_lem : (c : ShortMonth) (f : DayFacts) (r : Record) → is_showing (falling c f r) ≡ falls c f r
unfolding falling is_showing
falling_shows_lem c f r =
    bool_cases (falls c f r)
    (λ t. rw (is_true t, t) (bool_cases (day_missing f r) (λ m. rw (is_true m) refl) (λ m. rw (is_false m) refl)))
    (λ t. rw (is_false t, t) refl)

missing_last : (c : ShortMonth) (f : DayFacts) → on_missing_day c f ≡ true → (c ≡ ShortMonth.Last) × (f.date.day ≡ f.length)
unfolding on_missing_day
missing_last ShortMonth.Skip f h = absurd (false≢true h)
missing_last ShortMonth.Last f h = (refl, (eq_take f.date.day f.length true false false≢true h).0)

-- a record of a day of the month falls: on its own day, or because of "last"
module _ (c : ShortMonth) (f : DayFacts) (day : ℕ) (h : on_day c f day ≡ true) where
  on_own : if_lt f.length day true false ≡ false → f.date.day ≡ day
  unfolding on_day
  on_own m =
      let l = (lt_skip f.length day true false true≢false m).0 in
      (eq_take f.date.day day true false false≢true (sym (is_ge l _ _) ∙ h)).0

  on-last : f.length < day → (c ≡ ShortMonth.Last) × (f.date.day ≡ f.length)
  unfolding on_day
  on-last l = missing_last c f (sym (is_lt l _ _) ∙ h)

none_past : (n : ℕ) → if_lt n 0 true false ≡ true → ⊥
none_past n m = let l = (lt_take n 0 true false false≢true m).0 in omega arith

-- the test for a missing day says that the record names one, which is missing
pub missing_names : (f : DayFacts) (r : Record) → day_missing f r ≡ true → NamesMissing f r
unfolding day_missing named_day
missing_names f (Record.Dated d) m = none_past f.length m
missing_names f (Record.Weekly w) m = none_past f.length m
missing_names f (Record.MonthlyByDate x) m = (lt_take f.length x.day true false false≢true m).0
missing_names f (Record.MonthlyByPosition x) m = none_past f.length m
missing_names f (Record.Yearly y) m = (lt_take f.length y.day true false false≢true m).0
missing_names f (Record.ToDo t) m = none_past f.length m

pub names_missing : (f : DayFacts) (r : Record) → NamesMissing f r → day_missing f r ≡ true
unfolding day_missing named_day
names_missing f (Record.Dated d) z = absurd z
names_missing f (Record.Weekly w) z = absurd z
names_missing f (Record.MonthlyByDate x) l = is_lt l _ _
names_missing f (Record.MonthlyByPosition x) z = absurd z
names_missing f (Record.Yearly y) l = is_lt l _ _
names_missing f (Record.ToDo t) z = absurd z

own_named : (c : ShortMonth) (f : DayFacts) (r : Record) → falls c f r ≡ true → day_missing f r ≡ false → OnNamedDay f r
unfolding falls named_day day_missing by_date_falls yearly_falls
own_named c f (Record.Dated d) t m = tt
own_named c f (Record.Weekly w) t m = tt
own_named c f (Record.MonthlyByDate x) t m = on_own c f x.day (b_take (on_day c f x.day) _ _ false≢true t).0 m
own_named c f (Record.MonthlyByPosition x) t m = tt
own_named c f (Record.Yearly y) t m =
    on_own c f y.day (b_take (on_day c f y.day) _ _ false≢true (eq_take f.date.month y.month _ _ false≢true t).1).0 m
own_named c f (Record.ToDo x) t m = tt

moved_last :
    (c : ShortMonth) (f : DayFacts) (r : Record) → falls c f r ≡ true → NamesMissing f r → (c ≡ ShortMonth.Last) × (f.date.day ≡ f.length)
unfolding falls by_date_falls yearly_falls
moved_last c f (Record.Dated d) t z = absurd z
moved_last c f (Record.Weekly w) t z = absurd z
moved_last c f (Record.MonthlyByDate x) t l = on-last c f x.day (b_take (on_day c f x.day) _ _ false≢true t).0 l
moved_last c f (Record.MonthlyByPosition x) t z = absurd z
moved_last c f (Record.Yearly y) t l =
    on-last c f y.day (b_take (on_day c f y.day) _ _ false≢true (eq_take f.date.month y.month _ _ false≢true t).1).0 l
moved_last c f (Record.ToDo x) t z = absurd z

-- each answer is true
pub falling_says : (c : ShortMonth) (f : DayFacts) (r : Record) → Says c f r (falling c f r)
unfolding falling
falling_says c f r =
    b_elim (Says c f r) (falls c f r) _ _
    (λ t. b_elim (Says c f r) (day_missing f r) _ _ (λ m. let l = missing_names f r m in let k = moved_last c f r t l in (t, k.0, k.1, l)) (λ m. (t, own_named c f r t m)))
    (λ t. t)

-- of a record that falls, the missing day alone decides
pub falling_missing : (c : ShortMonth) (f : DayFacts) (r : Record) → falls c f r ≡ true → falling c f r ≡ if_b (day_missing f r) Falling.Moved Falling.Own
unfolding falling
falling_missing c f r t = is_true t _ _

moved_says : (c : ShortMonth) (f : DayFacts) (r : Record) → falling c f r ≡ Falling.Moved → Says c f r Falling.Moved
moved_says c f r e = rw e at (falling_says c f r)

-- under skip nothing is moved
pub skip_unmoved : (f : DayFacts) (r : Record) → falling ShortMonth.Skip f r ≡ Falling.Moved → ⊥
skip_unmoved f r e = let l = (moved_says ShortMonth.Skip f r e).1 in constructors_differ cc

-- nor, under either, what is dated, weekly, by position or to be done
module _ (c : ShortMonth) (f : DayFacts) where
  pub dated-unmoved : (d : Dated) → falling c f (Record.Dated d) ≡ Falling.Moved → ⊥
  dated-unmoved d e = (moved_says c f (Record.Dated d) e).3

  pub weekly-unmoved : (w : Weekly) → falling c f (Record.Weekly w) ≡ Falling.Moved → ⊥
  weekly-unmoved w e = (moved_says c f (Record.Weekly w) e).3

  pub by-position-unmoved : (m : MonthlyByPosition) → falling c f (Record.MonthlyByPosition m) ≡ Falling.Moved → ⊥
  by-position-unmoved m e = (moved_says c f (Record.MonthlyByPosition m) e).3

  pub to-do-unmoved : (t : ToDo) → falling c f (Record.ToDo t) ≡ Falling.Moved → ⊥
  to-do-unmoved t e = (moved_says c f (Record.ToDo t) e).3

else_same : {X : Type 0} (a b : ℕ) (x : X) {y z : X} → ((a ≡ b → ⊥) → y ≡ z) → if_eq a b x y ≡ if_eq a b x z
else_same a b x {y} {z} h =
    eq_elim (λ u. u ≡ if_eq a b x z) a b x y (λ e. sym (is_eq e _ _)) (λ n. h n ∙ sym (is_ne n _ _))

-- the named day over the type number, as a reader of bytes meets it
pub named_type : (t : ℕ) (p : List ℕ) → named_day (record_of t p) ≡ if_eq t 3 (byte p 1) (if_eq t 5 (byte p 2) 0)
unfolding named_day monthly_by_date_of yearly_of
named_type t p =
    by_type named_day t p
    ∙ eq_elim (λ z. z ≡ if_eq t 3 (byte p 1) (if_eq t 5 (byte p 2) 0)) t 1 _ _ (λ e. sym (is_ne (λ q. omega arith) _ _ ∙ is_ne (λ q. omega arith) _ _))
    (λ _. eq_elim (λ z. z ≡ if_eq t 3 (byte p 1) (if_eq t 5 (byte p 2) 0)) t 2 _ _ (λ e. sym (is_ne (λ q. omega arith) _ _ ∙ is_ne (λ q. omega arith) _ _))
    (λ _. else_same t 3 (byte p 1)
    (λ n3. eq_elim (λ z. z ≡ if_eq t 5 (byte p 2) 0) t 4 _ _ (λ e. sym (is_ne (λ q. omega arith) _ _)) (λ _. refl))))
