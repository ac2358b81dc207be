-- Laws of halving: `eleven_halvings`, and that each test of the search is one halving.
-- Assumes nothing.
use Rattle.std.specs.Prelude.{ℕ, zero, suc, ◌+◌, ◌-◌, ◌/◌, ◌<◌, ◌≤◌, ◌≡◌, refl, List, get_or}
use Rattle.std.proofs.Common.{sym, ap, arith, add_assoc, add-one}
use Rattle.prelude.proofs.Laws.Choice.{is_lt, is_ge, lt_elim}
use Rattle.days.specs.Days.{last_day, month_start}
use Rattle.days.proofs.Laws.Days.{start_zero, start_last, start_le}
use Rattle.days.specs.Table.{Starts, StartsFrom}
use Rattle.days.specs.Halving.{Part, lower, upper, halve, halved, Holds, ElevenHalvings, Found, Narrowed, NarrowedByFive}

-- a halving keeps the half that holds the day
pub halve_holds : {n : ℕ} {p : Part} → Holds n p → Holds n (halve n p)
unfolding halve
halve_holds {n} {p} h =
    lt_elim (Holds n) n (month_start (upper p).first) _ _
    (λ l.
    let e : month_start (upper p).first ≤ month_start ((lower p).first + (lower p).count) = start_le (omega arith) in
    record { some = omega arith; within = omega arith; from = h.from; until = omega arith })
    (λ g.
    let e : p.first + p.count ≡ (upper p).first + (upper p).count = omega arith in
    record { some = omega arith; within = omega arith; from = g; until = rw e at h.until })

pub halved_holds : (k : ℕ) {n : ℕ} → n ≤ last_day → Holds n (halved k n)
unfolding halved
halved_holds zero h =
    record { some = omega arith; within = omega arith; from = omega (arith, start_zero); until = omega (arith, start_last) }
halved_holds (suc k) h = halve_holds (halved_holds k h)

-- how many months k halvings leave, whatever the day: 1440 720 360 180 90 45 23 12 6 3 2 1
unfoldable pub count_after : ℕ → ℕ
count_after zero = 1440
count_after (suc k) = count_after k - count_after k / 2

pub halved_count : (k n : ℕ) → (halved k n).count ≡ count_after k
unfolding halved count_after halve
halved_count zero n = refl
halved_count (suc k) n =
    let e : (halved k n).count ≡ count_after k = halved_count k n in
    lt_elim (λ (p : Part). p.count ≡ count_after k - count_after k / 2) n (month_start (upper (halved k n)).first) _ _ (λ l. rw e) (λ g. rw e)

pub eleven_halvings : (n : ℕ) → n ≤ last_day → ElevenHalvings n
unfolding count_after
eleven_halvings n h =
    let a : Holds n (halved 11 n) = halved_holds 11 h in
    let one : (halved 11 n).count ≡ 1 = halved_count 11 n in
    let e : (halved 11 n).first + (halved 11 n).count ≡ suc (halved 11 n).first = omega arith in
    record { each = λ k. halved_holds k h; one = one; inside = record { within = omega arith; from = a.from; until = rw e at a.until } }

-- ten would not do
pub ten_halvings : (n : ℕ) → (halved 10 n).count ≡ 2
unfolding count_after
ten_halvings n = halved_count 10 n

-- no halving yet
pub narrowed_by_none : {n : ℕ} → n ≤ last_day → Narrowed n 0 0 1440
unfolding halved
narrowed_by_none h = record { day = h; part = refl; holds = halved_holds 0 h }

-- one more
module _ {n k first count : ℕ} (r : Narrowed n k first count) where
  next : (p : Part) → halved (suc k) n ≡ p → Narrowed n (suc k) p.first p.count
  next p e = record { day = r.day; part = e; holds = rw e at (halved_holds (suc k) r.day) }

  pub narrowed-lower : n < month_start (first + count / 2) → Narrowed n (suc k) first (count - count / 2)
  unfolding halved halve
  narrowed-lower l = next (lower (record { first = first; count = count })) (rw r.part (is_lt l _ _))

  pub narrowed-upper : month_start (first + count / 2) ≤ n → Narrowed n (suc k) (first + count / 2) (count - count / 2)
  unfolding halved halve
  narrowed-upper g = next (upper (record { first = first; count = count })) (rw r.part (is_ge g _ _))

-- one more, by an entry of the table
module _ {t : List ℕ} {n k first count : ℕ} (s : Starts t) (r : Narrowed n k first count) where
  middle : get_or t (first + count / 2) 0 ≡ month_start (first + count / 2)
  middle = s.start (first + count / 2) (omega arith)

  pub table-lower : n < get_or t (first + count / 2) 0 → Narrowed n (suc k) first (count - count / 2)
  table-lower l = narrowed-lower r (omega (arith, middle))

  pub table-upper : get_or t (first + count / 2) 0 ≤ n → Narrowed n (suc k) (first + count / 2) (count - count / 2)
  table-upper g = narrowed-upper r (omega (arith, middle))

-- one more, by a start of the 45 months
module _ {s : List ℕ} {n k first count : ℕ} (low : ℕ) (e : StartsFrom first 45 s) (r : Narrowed n k (first + low) count) (b : low + count ≤ 45) where
  inner : get_or s (low + count / 2) 0 ≡ month_start (first + low + count / 2)
  inner = rw add_assoc (e.start (low + count / 2) (omega arith))

  pub rest_lower : n < get_or s (low + count / 2) 0 → Narrowed n (k + 1) (first + low) (count - count / 2)
  rest_lower l = rw add-one (narrowed-lower r (omega (arith, inner)))

  pub rest-upper : get_or s (low + count / 2) 0 ≤ n → Narrowed n (k + 1) (first + (low + count / 2)) (count - count / 2)
  rest-upper g = rw (add-one, ← add_assoc first low (count / 2)) (narrowed-upper r (omega (arith, inner)))

pub narrowed_by_five : {n first f : ℕ} {s : List ℕ} → (f ≡ first) × StartsFrom first 45 s → Narrowed n 5 first 45 → NarrowedByFive n f s
narrowed_by_five (e, t) k = rw e (record { part = k; starts = t })

pub found_by_eleven : {n number count start : ℕ} → Narrowed n 11 number count → start ≡ month_start number → Found n number start
found_by_eleven {n} r e =
    record { halvings = eleven_halvings n r.day; month = ap (λ (p : Part). p.first) (sym r.part); starts = e }
