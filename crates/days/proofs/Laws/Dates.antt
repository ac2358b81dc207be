-- Laws of dates: the bounds of a month's length, what a real date is as facts, both ways.
-- Assumes nothing.
use Rattle.std.specs.Prelude.{ℕ, ◌≤◌, ◌≡◌, true}
use Rattle.std.proofs.Common.{◌∙◌, arith}
use Rattle.std.proofs.lemmas.Bool.{false≢true}
use Rattle.prelude.proofs.Laws.Choice.{is_ge, lt_elim, eq_elim, b_elim, lt_skip}
use Rattle.days.specs.Dates.{leap, month_length, real, RealDate}
use Rattle.days.specs.declared.types.Date.{Date}

pub record Month (m n : ℕ) : Type 0 where
  pub least : 28 ≤ n
  pub most : n ≤ 31

-- a month has 28 to 31 days
pub length_bounds : (y m : ℕ) → 1 ≤ m → m ≤ 12 → Month m (month_length y m)
unfolding month_length
length_bounds y m low high =
    eq_elim (Month m) m 2 _ _ (λ e. b_elim (Month m) (leap y) 29 28 (λ t. omega arith) (λ t. omega arith))
    (λ e. eq_elim (Month m) m 4 _ _ (λ e. omega arith)
    (λ e. eq_elim (Month m) m 6 _ _ (λ e. omega arith)
    (λ e. eq_elim (Month m) m 9 _ _ (λ e. omega arith)
    (λ e. eq_elim (Month m) m 11 _ _ (λ e. omega arith)
    (λ e. lt_elim (Month m) m 1 _ _ (λ l. omega arith) (λ g. lt_elim (Month m) 12 m 0 31 (λ l. omega arith) (λ g. omega arith)))))))

-- only the months 1 to 12 have days
pub length-month : (y m : ℕ) → 1 ≤ month_length y m → (1 ≤ m) × (m ≤ 12)
unfolding month_length
length-month y m =
    eq_elim P m 2 _ _ (λ e h. (omega arith, omega arith))
    (λ _. eq_elim P m 4 _ _ (λ e h. (omega arith, omega arith))
    (λ _. eq_elim P m 6 _ _ (λ e h. (omega arith, omega arith))
    (λ _. eq_elim P m 9 _ _ (λ e h. (omega arith, omega arith))
    (λ _. eq_elim P m 11 _ _ (λ e h. (omega arith, omega arith))
    (λ _. lt_elim P m 1 _ _ (λ l h. absurd (omega arith)) (λ g. lt_elim P 12 m _ _ (λ l h. absurd (omega arith)) (λ k h. (g, k))))))))
  where
    P : ℕ → Type 0
    P n = 1 ≤ n → (1 ≤ m) × (m ≤ 12)

pub facts_valid : {d : Date} → RealDate d → real d ≡ true
unfolding real
facts_valid {d} v =
    is_ge v.from _ _ ∙ is_ge v.upto _ _ ∙ is_ge v.january _ _ ∙ is_ge v.december _ _ ∙ is_ge v.first _ _ ∙ is_ge v.last _ _

pub valid_facts : {d : Date} → real d ≡ true → RealDate d
unfolding real
valid_facts {d} e =
    let e1 = lt_skip d.year 1980 _ _ false≢true e in
    let e2 = lt_skip 2099 d.year _ _ false≢true e1.1 in
    let e3 = lt_skip d.month 1 _ _ false≢true e2.1 in
    let e4 = lt_skip 12 d.month _ _ false≢true e3.1 in
    let e5 = lt_skip d.day 1 _ _ false≢true e4.1 in
    let e6 = lt_skip (month_length d.year d.month) d.day _ _ false≢true e5.1 in
    record { from = e1.0; upto = e2.0; january = e3.0; december = e4.0; first = e5.0; last = e6.0 }
