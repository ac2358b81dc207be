-- The judging of a list, entry by entry, beside a walk over the records.
-- Assumes nothing.
use Rattle.std.specs.Prelude.{Ok, ℕ, zero, suc, ◌+◌, ◌-◌, ◌<◌, ◌≤◌, ◌≡◌, refl, false, List, length, get_or}
use Rattle.std.proofs.Common.{sym, ◌∙◌, ap, arith}
use Rattle.std.proofs.Math.Bool.{Bool, true, true≢false}
use Rattle.prelude.specs.Choice.{if_lt, if_eq}
use Rattle.prelude.proofs.Laws.Choice.{is_lt, is_ge, is_true, is_false, lt_elim, eq_elim, b_elim, lt_take, b_take}
use Rattle.prelude.specs.Refusals.{bad_cancelled}
use Rattle.prelude.specs.Verdicts.{refused}
use Rattle.prelude.proofs.Laws.Verdicts.{unless_bad-true, unless_bad-false}
use Rattle.days.specs.Days.{last_day}
use Rattle.days.specs.Facts.{facts_of}
use Rattle.records.specs.Fields.{record_of}
use Rattle.records.specs.declared.types.Record.{Record}
use Rattle.book.specs.Books.{entry_at, places_of}
use Rattle.falls.specs.Falls.{falls}
use Rattle.falls.proofs.Laws.Falls.{by_type}
use Rattle.falls.specs.declared.types.ShortMonth.{ShortMonth}
use Rattle.cancelled.specs.Cancelled.{cancelled_number, cancelled_day, rises_at, is_repeated, may_cancel, names_sitting, is_beyond, entry_bad, entry_verdict}
use Rattle.cancelled.specs.Judging.{RisesUpTo, out_of_order, repeated_type}
use Rattle.cancelled.proofs.Laws.Entries.{bad-falling, bad-other, bad-beyond, beyond-back, not-bad, rises_less}

pub rises_up_start : (list : List ℕ) → RisesUpTo list 0
rises_up_start list = record { each = λ a b l h. absurd (omega arith) }

pub rises_up_next : {list : List ℕ} {i : ℕ} → RisesUpTo list i → rises_at list i ≡ true → RisesUpTo list (i + 1)
rises_up_next {i = zero} r h = record { each = λ a b l m. absurd (omega arith) }
rises_up_next {list} {i = suc i} r h =
    record {
      each =
          λ a b l m.
          lt_elim {X = Unit {0}} (λ _. get_or list a 0 < get_or list b 0) b (suc i) tt tt (λ k. r.each a b l k)
          (λ k.
          let e : b ≡ suc i = omega arith in
          let s = rises_less list i h in
          rw e
          (lt_elim {X = Unit {0}} (λ _. get_or list a 0 < get_or list (suc i) 0) a i tt tt (λ q. omega (arith, s, r.each a i q (omega arith)))
          (λ q. let z : a ≡ i = omega arith in rw z s)));
    }

-- the entry before is of the same record or an earlier one; before the first entry that is the first one itself
pub number_rises : (list : List ℕ) (i : ℕ) → rises_at list i ≡ true → cancelled_number (get_or list (i - 1) 0) ≤ cancelled_number (get_or list i 0)
number_rises list zero h = omega arith
number_rises list (suc i) h = let e : suc i - 1 ≡ i = omega arith in let s = rises_less list i h in rw e (omega arith)

-- of a list that rises up to an entry: whether that is a seventeenth, by the entry 16 places before
pub is_seventeenth :
    {list : List ℕ} {i : ℕ} → RisesUpTo list (i + 1) → i < length list
    → is_beyond list i ≡ if_lt i 16 false (if_eq (cancelled_number (get_or list (i - 16) 0)) (cancelled_number (get_or list i 0)) true false)
is_seventeenth r h = beyond-back _ _ h (λ a b l m. r.each a b l (omega arith))

-- what is asked first
module _ (records : ℕ) (list : List ℕ) (i : ℕ) where
  pub in_order : out_of_order records list i ≡ false → (rises_at list i ≡ true) × (cancelled_number (get_or list i 0) < records) × (is_beyond list i ≡ false)
  unfolding out_of_order
  in_order h =
      let a = b_take (rises_at list i) _ _ true≢false h in
      let b = lt_take (cancelled_number (get_or list i 0)) records _ _ true≢false a.1 in
      (a.0, b.0, b.1)

-- the record of an entry's number
pub names_at : (f : List ℕ) (e : ℕ) → cancelled_number e < length (places_of f) → names_sitting f e ≡ may_cancel (entry_at f (get_or (places_of f) (cancelled_number e) 0)).«record» (cancelled_day e)
unfolding names_sitting
names_at f e h = is_lt h _ _

names_none : (f : List ℕ) (e : ℕ) → length (places_of f) ≤ cancelled_number e → names_sitting f e ≡ false
unfolding names_sitting
names_none f e h = is_ge h _ _

-- the verdict on an entry
module _ (f list : List ℕ) (i : ℕ) where
  refuse-bad : entry_bad f list i ≡ true → entry_verdict f list i ≡ refused bad_cancelled i
  unfolding entry_verdict
  refuse-bad h = unless_bad-true bad_cancelled i h

  pub refuse-out-of-order : {records : ℕ} → records ≡ length (places_of f) → out_of_order records list i ≡ true → entry_verdict f list i ≡ refused bad_cancelled i
  unfolding out_of_order
  refuse-out-of-order {records} e =
      b_elim P (rises_at list i) _ _
      (λ _. lt_elim P (cancelled_number (get_or list i 0)) records _ _ (λ _ h. refuse-bad (bad-beyond f list i h)) (λ m _. refuse-bad (bad-other f list i (names_none f _ (omega arith)))))
      (λ h _. refuse-bad (bad-falling f list i h))
    where
      P : Bool → Type 0
      P z = z ≡ true → entry_verdict f list i ≡ refused bad_cancelled i

  module _ (inside : cancelled_number (get_or list i 0) < length (places_of f)) where
    abbrev there : Record
    there = (entry_at f (get_or (places_of f) (cancelled_number (get_or list i 0)) 0)).«record»

    pub refuse-other-day : may_cancel (entry_at f (get_or (places_of f) (cancelled_number (get_or list i 0)) 0)).«record» (cancelled_day (get_or list i 0)) ≡ false → entry_verdict f list i ≡ refused bad_cancelled i
    refuse-other-day h = refuse-bad (bad-other f list i (names_at f _ inside ∙ h))

    pub accept-entry :
        rises_at list i ≡ true → is_beyond list i ≡ false → may_cancel (entry_at f (get_or (places_of f) (cancelled_number (get_or list i 0)) 0)).«record» (cancelled_day (get_or list i 0)) ≡ true
        → entry_verdict f list i ≡ Ok tt
    unfolding entry_verdict
    accept-entry a b h = unless_bad-false bad_cancelled i (not-bad f list i a (names_at f _ inside ∙ h) b)

-- types 2 to 5 over the type number
pub repeated_type_lem : (t : ℕ) (p : List ℕ) → is_repeated (record_of t p) ≡ repeated_type t
unfolding is_repeated repeated_type
repeated_type_lem t p =
    by_type is_repeated t p
    ∙ eq_elim P t 1 _ _ (λ e. small (omega arith))
    (λ n1. eq_elim P t 2 _ _ (λ e. inside (omega arith) (omega arith))
    (λ n2. eq_elim P t 3 _ _ (λ e. inside (omega arith) (omega arith))
    (λ n3. eq_elim P t 4 _ _ (λ e. inside (omega arith) (omega arith))
    (λ n4. eq_elim P t 5 _ _ (λ e. inside (omega arith) (omega arith))
    (λ n5. lt_elim {X = Unit {0}} (λ _. P false) t 2 tt tt (λ l. small l) (λ l. large l (omega arith)))))))
  where
    P : Bool → Type 0
    P z = z ≡ if_lt t 2 false (if_lt 5 t false true)

    small : t < 2 → P false
    small h = sym (is_lt h _ _)

    inside : 2 ≤ t → t ≤ 5 → P true
    inside a b = sym (is_ge a _ _ ∙ is_ge b _ _)

    large : 2 ≤ t → 5 < t → P false
    large a b = sym (is_ge a _ _ ∙ is_lt b _ _)

-- a day that may be cancelled, by the kind and then by the day
pub may_cancel-repeated : (r : Record) (day : ℕ) → is_repeated r ≡ true → may_cancel r day ≡ if_lt last_day day false (falls ShortMonth.Last (facts_of day) r)
unfolding may_cancel
may_cancel-repeated r day h = ap (λ (z : Bool). if_lt last_day day false z) (is_true h _ _)

pub may_cancel_not : (r : Record) (day : ℕ) → is_repeated r ≡ false → may_cancel r day ≡ false
unfolding may_cancel
may_cancel_not r day h = lt_elim (λ z. z ≡ false) last_day day _ _ (λ _. refl) (λ _. is_false h _ _)
