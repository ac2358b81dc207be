-- Laws of a day's list: the first zero, what an appointment is, and that the walk goes on by one appointment at a time without ever running out.
-- Assumes nothing.
use Prim.Native.Nat.{ℕ, zero, suc, ◌+◌, ◌-◌, ◌<◌, ◌≤◌}
use Rattle.std.specs.Prelude.{Ok, Err, ◌≡◌, refl, true, false, eqb, List, [], ◌∷◌}
use Rattle.std.proofs.Common.{sym, ◌∙◌, eq-eqb, ne_eqb}
use Rattle.prelude.specs.Choice.{if_eq}
use Rattle.std.proofs.Math.Path.{ap}
use Rattle.std.proofs.Math.Bool.{false≢true}
use native.Mathlib.Omega.{arith}
use Rattle.prelude.proofs.Laws.Choice.{is_lt, is_ge, is_eq, is_ne, is_true, is_false, lt_elim, eq_elim, lt_skip, eq_take, bool_cases}
use Rattle.prelude.specs.Bytes.{byte}
use Rattle.prelude.specs.Refusals.{bad_appointment, refusal_at}
use Rattle.days.specs.Days.{last_minute}
use Rattle.calendar.specs.Lists.{size_at, flags_at, minute_at, next_at, first_zero, appointment_ok, ListWalk, more, ended, stopped, list_walk_f, list_walk_from, places_in_list, verdict_in}
use Rattle.prelude.proofs.Laws.Results.{err_not_ok}

-- the first zero: of no byte, where a zero stands, where another byte does
pub zero-none : (f : List ℕ) (p : ℕ) → first_zero 0 f p ≡ p
unfolding first_zero
zero-none f p = refl

pub zero_here : (n : ℕ) (f : List ℕ) (p : ℕ) → byte f p ≡ 0 → first_zero (suc n) f p ≡ p
unfolding first_zero
zero_here n f p z = is_eq z _ _

pub zero-later : (n : ℕ) (f : List ℕ) (p : ℕ) → (byte f p ≡ 0 → ⊥) → first_zero (suc n) f p ≡ first_zero n f (p + 1)
unfolding first_zero
zero-later n f p z = is_ne z _ _

-- a zero at the first place is the first, however many bytes there are
pub zero_met : (n : ℕ) (f : List ℕ) (p : ℕ) → byte f p ≡ 0 → first_zero n f p ≡ p
zero_met zero f p z = zero-none f p
zero_met (suc n) f p z = zero_here n f p z

-- it lies among the bytes or right behind them, and among them it is a zero
pub record ZeroIn (n : ℕ) (f : List ℕ) (p z : ℕ) : Type 0 where
  pub least : p ≤ z
  pub most : z ≤ p + n
  pub found : z < p + n → byte f z ≡ 0

pub zero_in : (n : ℕ) (f : List ℕ) (p : ℕ) → ZeroIn n f p (first_zero n f p)
unfolding first_zero
zero_in zero f p = record { least = omega arith; most = omega arith; found = λ h. absurd (omega arith) }
zero_in (suc n) f p =
    eq_elim (ZeroIn (suc n) f p) (byte f p) 0 _ _
    (λ z. record { least = omega arith; most = omega arith; found = λ h. z })
    (λ _. let i : ZeroIn n f (p + 1) (first_zero n f (p + 1)) = zero_in n f (p + 1) in
    record { least = omega arith; most = omega arith; found = λ h. i.found (omega arith) })

-- one byte more, which is a zero, moves it nowhere
pub zero_more : (n : ℕ) (f : List ℕ) (p : ℕ) → byte f (p + n) ≡ 0 → first_zero (suc n) f p ≡ first_zero n f p
unfolding first_zero
zero_more zero f p z = is_eq (ap (λ (k : ℕ). byte f k) (omega arith) ∙ z) _ _
zero_more (suc n) f p z =
    rw (← zero_more n f (p + 1) (ap (λ (k : ℕ). byte f k) (omega arith) ∙ z))

-- a byte that is no zero, up to one that is
pub before_last : (f : List ℕ) (i last : ℕ) → i ≤ last → byte f last ≡ 0 → (byte f i ≡ 0 → ⊥) → i < last
before_last f i last h z n =
    eq_elim {X = Unit {0}} (λ _. i < last) i last tt tt (λ e. absurd (n (ap (λ (k : ℕ). byte f k) e ∙ z))) (λ d. omega arith)

-- a test of two numbers that are equal just where two others are
pub test_is : (a b m n : ℕ) → (a ≡ b → m ≡ n) → (m ≡ n → a ≡ b) → eqb a b ≡ if_eq m n true false
test_is a b m n f g = eq_elim (λ z. eqb a b ≡ z) m n true false (λ e. eq-eqb a b (g e)) (λ d. ne_eqb a b (λ e. d (f e)))

-- what an appointment is
pub record AppointmentAt (f : List ℕ) (e low at : ℕ) : Type 0 where
  pub size : 5 ≤ size_at f at
  pub inside : next_at f at ≤ e
  pub flags : flags_at f at ≤ 3
  pub minute : minute_at f at ≤ last_minute
  pub rises : low ≤ minute_at f at
  pub ends : first_zero (size_at f at - 4) f (at + 4) + 1 ≡ next_at f at

module _ (f : List ℕ) (e low at : ℕ) where
  pub appointment-ok-facts : appointment_ok f e low at ≡ true → AppointmentAt f e low at
  unfolding appointment_ok
  appointment-ok-facts h =
      let e1 = lt_skip (size_at f at) 5 _ _ false≢true h in
      let e2 = lt_skip e (next_at f at) _ _ false≢true e1.1 in
      let e3 = lt_skip 3 (flags_at f at) _ _ false≢true e2.1 in
      let e4 = lt_skip last_minute (minute_at f at) _ _ false≢true e3.1 in
      let e5 = lt_skip (minute_at f at) low _ _ false≢true e4.1 in
      let e6 = eq_take (first_zero (size_at f at - 4) f (at + 4) + 1) (next_at f at) _ _ false≢true e5.1 in
      record { size = e1.0; inside = e2.0; flags = e3.0; minute = e4.0; rises = e5.0; ends = e6.0 }

  pub facts-appointment-ok : AppointmentAt f e low at → appointment_ok f e low at ≡ true
  unfolding appointment_ok
  facts-appointment-ok a =
      rw (is_ge a.size, is_ge a.inside, is_ge a.flags, is_ge a.minute, is_ge a.rises, is_eq a.ends)

-- the walk does not depend on the number that bounds it
fuel : (k j : ℕ) (f : List ℕ) (e low at : ℕ) → e - at ≤ k → e - at ≤ j → list_walk_f k f e low at ≡ list_walk_f j f e low at
unfolding list_walk_f
fuel zero zero f e low at h l = refl
fuel zero (suc j) f e low at h l = sym (is_ge (omega arith) _ _)
fuel (suc k) zero f e low at h l = is_ge (omega arith) _ _
fuel (suc k) (suc j) f e low at h l =
    lt_elim {X = Unit {0}}
    (λ _. list_walk_f (suc k) f e low at ≡ list_walk_f (suc j) f e low at)
    at e tt tt
    (λ i. bool_cases (appointment_ok f e low at)
    (λ o. let a : AppointmentAt f e low at = appointment-ok-facts f e low at o in
    let q = fuel k j f e (minute_at f at) (next_at f at) (omega arith) (omega arith) in
    rw (is_lt i, is_true o, is_lt i, is_true o, q))
    (λ o. rw (is_lt i, is_false o, is_lt i, is_false o)))
    (λ i. rw (is_ge i, is_ge i))

module _ (f : List ℕ) (e low at : ℕ) where
  -- at the list's end
  pub walk_end : e ≤ at → list_walk_from f e low at ≡ ended
  unfolding list_walk_from list_walk_f
  walk_end h = let k : e - at ≡ 0 = omega arith in rw k

  -- one bounded by one more
  begun : at < e → list_walk_from f e low at ≡ list_walk_f (suc (e - at - 1)) f e low at
  unfolding list_walk_from
  begun h = let k : e - at ≡ suc (e - at - 1) = omega arith in rw (← k)

  -- where an appointment stands
  pub walk_more : at < e → appointment_ok f e low at ≡ true → list_walk_from f e low at ≡ more at (list_walk_from f e (minute_at f at) (next_at f at))
  unfolding list_walk_from list_walk_f
  walk_more h o =
      let a : AppointmentAt f e low at = appointment-ok-facts f e low at o in
      begun h ∙ is_lt h _ _ ∙ is_true o _ _ ∙ ap (more at) (fuel (e - at - 1) (e - next_at f at) f e (minute_at f at) (next_at f at) (omega arith) (omega arith))

  -- where none stands
  pub walk-stop : at < e → appointment_ok f e low at ≡ false → list_walk_from f e low at ≡ stopped at
  unfolding list_walk_from list_walk_f
  walk-stop h o = begun h ∙ is_lt h _ _ ∙ is_false o _ _

pub places_more : (at : ℕ) (w : ListWalk) → places_in_list (more at w) ≡ at ∷ places_in_list w
unfolding places_in_list
places_more at w = refl

pub places_end : places_in_list ended ≡ []
unfolding places_in_list
places_end = refl

pub verdict_more : (at : ℕ) (w : ListWalk) → verdict_in (more at w) ≡ verdict_in w
unfolding verdict_in
verdict_more at w = refl

pub verdict_end : verdict_in ended ≡ Ok tt
unfolding verdict_in
verdict_end = refl

pub verdict_stop : (at : ℕ) → verdict_in (stopped at) ≡ Err (refusal_at bad_appointment at)
unfolding verdict_in
verdict_stop at = refl

-- In a list without refusal an appointment stands before the end, and what comes after it is without refusal.
module _ (f : List ℕ) (e low at : ℕ) (fine : verdict_in (list_walk_from f e low at) ≡ Ok tt) (h : at < e) where
  pub list-fine-appointment-ok : appointment_ok f e low at ≡ true
  list-fine-appointment-ok =
      bool_cases (appointment_ok f e low at) (λ o. o)
      (λ o. absurd (err_not_ok (sym (ap verdict_in (walk-stop f e low at h o) ∙ verdict_stop at) ∙ fine)))

  pub list-next : verdict_in (list_walk_from f e (minute_at f at) (next_at f at)) ≡ Ok tt
  list-next = sym (ap verdict_in (walk_more f e low at h list-fine-appointment-ok) ∙ verdict_more at _) ∙ fine

  pub list-places : places_in_list (list_walk_from f e low at) ≡ at ∷ places_in_list (list_walk_from f e (minute_at f at) (next_at f at))
  list-places = ap places_in_list (walk_more f e low at h list-fine-appointment-ok) ∙ places_more at _
