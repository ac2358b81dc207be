-- Laws of the walk: what a step says, and that the walk goes on by one record at a time without ever running out.
-- Assumes nothing.
use Prim.Native.Nat.{ℕ, suc, ◌+◌, ◌-◌, ◌*◌, ◌<◌, ◌≤◌}
use Rattle.std.specs.Prelude.{Result, Ok, Err, Option, Some, None, ◌≡◌, refl, List}
use Rattle.std.proofs.Math.Path.{sym}
use Rattle.std.proofs.Common.{◌∙◌, ap, subst}
use native.Mathlib.Omega.{arith}
use Rattle.std.proofs.Math.ListN.{length}
use Rattle.prelude.proofs.Laws.Choice.{is_lt, is_ge, is_eq, is_ne, eq_take, eq_skip, lt_skip, constructors_differ}
use Rattle.prelude.proofs.Laws.Results.{err_not_ok}
use Rattle.prelude.specs.declared.refusals.Fault.{Fault}
use Rattle.prelude.specs.declared.refusals.Refusal.{Refusal}
use Rattle.book.specs.Walk.{type_at, body_length_at, next_place, judge_head, head_step, body_step, step_at, Walk, more, ended, stopped, on_step, walk_f, walk_from}
use Rattle.book.specs.Invariants.{RecordAt}
use Rattle.book.specs.Settings.{first_record}

-- what a head without refusal is
pub record HeadFine (size at t l : ℕ) : Type 0 where
  pub head : at + 3 ≤ size
  pub known : (t ≡ 50 → ⊥) → (1 ≤ t) × (t ≤ 6) × (at + 3 + l ≤ size)

-- three bytes that are not there
pub head_short : (size at t l : ℕ) → size < at + 3 → judge_head size at t l ≡ Err Fault.CutShort
unfolding judge_head
head_short size at t l h = is_lt h _ _

pub head_fine : {size at t l : ℕ} → judge_head size at t l ≡ Ok tt → HeadFine size at t l
unfolding judge_head
head_fine {size} {at} {t} {l} e =
    let e1 = lt_skip size (at + 3) _ _ err_not_ok e in
    record {
      head = e1.0;
      known =
          λ n.
          let e2 = is_ne n _ _ in
          let e3 = lt_skip t 1 _ _ err_not_ok (sym e2 ∙ e1.1) in
          let e4 = lt_skip 6 t _ _ err_not_ok e3.1 in
          let e5 = lt_skip size (at + 3 + l) _ _ err_not_ok e4.1 in
          (e3.0, e4.0, e5.0);
    }

pub no_end : {e : Refusal} → ◌≡◌ {A = Result (Option ℕ) Refusal} (Err e) (Ok None) → ⊥
no_end c = constructors_differ cc

no_record : {e : Refusal} {n : ℕ} → ◌≡◌ {A = Result (Option ℕ) Refusal} (Err e) (Ok (Some n)) → ⊥
no_record c = constructors_differ cc

end_no_record : {n : ℕ} → ◌≡◌ {A = Result (Option ℕ) Refusal} (Ok None) (Ok (Some n)) → ⊥
end_no_record c = constructors_differ cc

pub record_no_end : {n : ℕ} → ◌≡◌ {A = Result (Option ℕ) Refusal} (Ok (Some n)) (Ok None) → ⊥
record_no_end c = constructors_differ cc

record_inj : {n m : ℕ} → ◌≡◌ {A = Result (Option ℕ) Refusal} (Ok (Some n)) (Ok (Some m)) → n ≡ m
record_inj e = cc

-- what was judged where a step goes on
head_take : (j : Result (Unit {0}) Fault) (at : ℕ) (x : Result (Option ℕ) Refusal) (y : Option ℕ) → ((e : Refusal) → ◌≡◌ {A = Result (Option ℕ) Refusal} (Err e) (Ok y) → ⊥) → head_step j at x ≡ Ok y → (j ≡ Ok tt) × (x ≡ Ok y)
head_take (Ok u) at x y n h = (refl, h)
head_take (Err e) at x y n h = absurd (n _ h)

body_take : (j : Result (Unit {0}) Fault) (at next m : ℕ) → body_step j at next ≡ Ok (Some m) → (j ≡ Ok tt) × (m ≡ next)
unfolding body_step
body_take (Ok u) at next m h = (refl, sym (record_inj h))
body_take (Err e) at next m h = absurd (no_record h)

body_no_end : (j : Result (Unit {0}) Fault) (at next : ℕ) → body_step j at next ≡ Ok None → ⊥
unfolding body_step
body_no_end (Ok u) at next h = record_no_end h
body_no_end (Err e) at next h = no_end h

module _ (f : List ℕ) (at : ℕ) where
  pub step-record : {next : ℕ} → step_at f at ≡ Ok (Some next) → RecordAt f at × (next ≡ next_place f at)
  unfolding step_at body_step
  step-record {next} e =
      let e1 = head_take _ _ _ _ (λ x. λ h. no_record h) e in
      let h : HeadFine (length f) at (type_at f at) (body_length_at f at) = head_fine e1.0 in
      let e2 = eq_skip (type_at f at) 50 _ _ end_no_record e1.1 in
      let e3 = body_take _ _ _ _ e2.1 in
      let k = h.known e2.0 in
      (record { low = k.0; high = k.1; body = k.2; fine = e3.0 }, e3.1)

  -- and back
  pub record-step : RecordAt f at → step_at f at ≡ Ok (Some (next_place f at))
  unfolding step_at body_step judge_head
  record-step r =
      let head : judge_head (length f) at (type_at f at) (body_length_at f at) ≡ Ok tt =
      is_ge (omega (arith, r.body)) _ _ ∙ is_ne (λ c. omega (arith, r.high)) _ _ ∙ is_ge (omega (arith, r.low)) _ _ ∙ is_ge (omega (arith, r.high)) _ _ ∙ is_ge (omega (arith, r.body)) _ _ in
      rw head (is_ne (λ c. omega (arith, r.high)) _ _ ∙ ap (λ j. body_step j at (next_place f at)) r.fine)

-- what a step to the end record says
pub record EndAt (f : List ℕ) (at : ℕ) : Type 0 where
  pub there : at + 3 ≤ length f
  pub type : type_at f at ≡ 50
  pub none : body_length_at f at ≡ 0

module _ (f : List ℕ) (at : ℕ) where
  pub step_end : step_at f at ≡ Ok None → EndAt f at
  unfolding step_at body_step judge_head
  step_end e =
      let e1 = head_take _ _ _ _ (λ x. λ h. no_end h) e in
      let e2 = eq_take (type_at f at) 50 _ _ (body_no_end _ _ _) e1.1 in
      let h1 = lt_skip (length f) (at + 3) _ _ err_not_ok e1.0 in
      let h2 = sym (is_eq e2.0 _ _) ∙ h1.1 in
      let h3 = eq_take (body_length_at f at) 0 _ _ err_not_ok h2 in
      record { there = h1.0; type = e2.0; none = h3.0 }

  pub end_step : EndAt f at → step_at f at ≡ Ok None
  unfolding step_at judge_head
  end_step r =
      let head : judge_head (length f) at (type_at f at) (body_length_at f at) ≡ Ok tt = is_ge r.there _ _ ∙ is_eq r.type _ _ ∙ is_eq r.none _ _ in
      rw head (is_eq r.type _ _)

-- n records lie behind the place
pub record At (f : List ℕ) (n at : ℕ) : Type 0 where
  pub low : first_record + 3 * n ≤ at
  pub high : at ≤ length f

pub at_first : {f : List ℕ} → first_record ≤ length f → At f 0 first_record
at_first h = record { low = omega arith; high = h }

pub at_next : {f : List ℕ} {n at next : ℕ} → At f n at → step_at f at ≡ Ok (Some next) → At f (suc n) next
at_next {f} {n} {at} {next} a e =
    let s : RecordAt f at × (next ≡ next_place f at) = step-record f at e in
    let b : at + 3 + body_length_at f at ≤ length f = s.0.body in
    let m : next ≡ at + 3 + body_length_at f at = s.1 in
    omega arith

module _ {f : List ℕ} {n at : ℕ} (a : At f n at) where
  from_step : {x : Result (Option ℕ) Refusal} → step_at f at ≡ x → walk_from f n at ≡ on_step at x (λ next. walk_from f (suc n) next)
  unfolding walk_from walk_f
  from_step {x} e =
      let k : length f - n ≡ suc (length f - suc n) = omega arith in
      rw (k) (ap (λ (y : Result (Option ℕ) Refusal). on_step at y (λ next. walk_f (length f - suc n) f next)) e)

  pub walk-record : {next : ℕ} → step_at f at ≡ Ok (Some next) → walk_from f n at ≡ more at (walk_from f (suc n) next)
  walk-record e = from_step e

  pub walk_end : step_at f at ≡ Ok None → walk_from f n at ≡ ended (at + 3)
  walk_end e = from_step e

  pub walk-stop : {r : Refusal} → step_at f at ≡ Err r → walk_from f n at ≡ stopped r
  walk-stop e = from_step e

-- the walk by its first step
abbrev pub Met : List ℕ → ℕ → ℕ → Walk → Type 0
Met f n at (more p w) = (p ≡ at) × (RecordAt f at × (At f (suc n) (next_place f at) × (walk_from f (suc n) (next_place f at) ≡ w)))
Met f n at (ended e) = EndAt f at × (e ≡ at + 3)
Met f n at (stopped r) = Unit {0}

pub walk_met : (f : List ℕ) (n at : ℕ) → At f n at → {w : Walk} → walk_from f n at ≡ w → Met f n at w
walk_met f n at a e = subst (Met f n at) e (by (step_at f at) refl)
  where
    by : (x : Result (Option ℕ) Refusal) → step_at f at ≡ x → Met f n at (walk_from f n at)
    by (Ok (Some m)) q =
        let s : RecordAt f at × (m ≡ next_place f at) = step-record f at q in
        let q' : step_at f at ≡ Ok (Some (next_place f at)) = q ∙ ap (λ (q : ℕ). Ok (Some q)) s.1 in
        subst (Met f n at) (sym (walk-record a q')) (refl, (s.0, (at_next a q', refl)))
    by (Ok None) q = subst (Met f n at) (sym (walk_end a q)) (step_end f at q, refl)
    by (Err r) q = subst (Met f n at) (sym (walk-stop a q)) tt
