-- Laws of what an accepted file shows: a cursor walks a judged list one appointment at a time, and a day's list is found by its descriptor.
-- Assumes nothing.
use Rattle.std.specs.Prelude.{Ok, ℕ, suc, ◌+◌, ◌<◌, ◌≤◌, ◌≡◌, List, [], ◌∷◌, length, get_or, drop}
use Rattle.std.proofs.Math.Path.{refl}
use Rattle.std.proofs.Common.{sym, ◌∙◌, ap, arith, drop-cons}
use Rattle.prelude.proofs.Laws.Choice.{is_eq, is_ne}
use Rattle.calendar.specs.Lists.{size_at, minute_at, next_at, list_walk_from, places_in_list, verdict_in}
use Rattle.calendar.proofs.Laws.Lists.{AppointmentAt, appointment-ok-facts, walk_end, places_end, verdict_end, list-fine-appointment-ok, list-next, list-places}
use Rattle.calendar.specs.Reader.{most_bytes, day_at, block_at, list_place, list_end, list_of, day_verdict}
use Rattle.calendar.specs.Invariants.{BlockAt, FineList, ListOn}
use Rattle.calendar.proofs.Laws.Reader.{day-fine}
use Rattle.calendar.specs.Shown.{places_from, places_on}

-- the place of appointment n of a list: what is ahead of it are the appointments from n on
pub record ListCursor (f : List ℕ) (e : ℕ) (places : List ℕ) (n at : ℕ) : Type 0 where
  pub low : ℕ
  pub fine : verdict_in (list_walk_from f e low at) ≡ Ok tt
  pub ahead : drop n places ≡ places_in_list (list_walk_from f e low at)
  pub count : length places ≡ n + length (places_in_list (list_walk_from f e low at))

pub cursor_first : {f : List ℕ} {e from : ℕ} → FineList f e from → ListCursor f e (places_in_list (list_walk_from f e 0 from)) 0 from
cursor_first l = record { low = 0; fine = l.fine; ahead = refl; count = omega arith }

-- the appointment ahead
pub record ListAhead (f : List ℕ) (e : ℕ) (places : List ℕ) (n at : ℕ) : Type 0 where
  pub there : n < length places
  pub place : get_or places n 0 ≡ at
  pub size : 5 ≤ size_at f at
  pub inside : next_at f at ≤ e
  pub next : ListCursor f e places (suc n) (next_at f at)

module _ {f : List ℕ} {e : ℕ} {places : List ℕ} {n at : ℕ} (c : ListCursor f e places n at) where
  pub cursor-ahead : at < e → ListAhead f e places n at
  cursor-ahead h =
      let a : AppointmentAt f e c.low at = appointment-ok-facts f e c.low at (list-fine-appointment-ok f e c.low at c.fine h) in
      let q : places_in_list (list_walk_from f e c.low at) ≡ at ∷ places_in_list (list_walk_from f e (minute_at f at) (next_at f at)) = list-places f e c.low at c.fine h in
      let l : length places ≡ n + suc (length (places_in_list (list_walk_from f e (minute_at f at) (next_at f at)))) = c.count ∙ ap (λ (x : List ℕ). n + length x) q in
      let d : get_or places n 0 ∷ drop (suc n) places ≡ at ∷ places_in_list (list_walk_from f e (minute_at f at) (next_at f at)) = sym (drop-cons places n 0 (omega arith)) ∙ c.ahead ∙ q in
      record {
        there = omega arith;
        place = cc;
        size = a.size;
        inside = a.inside;
        next = record { low = minute_at f at; fine = list-next f e c.low at c.fine h; ahead = cc; count = omega arith };
      }

  pub cursor_done : e ≤ at → length places ≡ n
  cursor_done h = c.count ∙ ap (λ (x : List ℕ). n + length x) (ap places_in_list (walk_end f e c.low at h) ∙ places_end) ∙ omega arith

-- the places of a day's appointments: of no descriptor, where the day's stands, where another stands
module _ (f : List ℕ) (p d : ℕ) where
  pub places-none : places_from 0 f p d ≡ []
  unfolding places_from
  places-none = refl

  pub places-here : (k : ℕ) → day_at f p ≡ d → places_from (suc k) f p d ≡ places_in_list (list_of f p)
  unfolding places_from
  places-here k e = is_eq e _ _

  pub places-from-other-day : (k : ℕ) → (day_at f p ≡ d → ⊥) → places_from (suc k) f p d ≡ places_from k f (p + 12) d
  unfolding places_from
  places-from-other-day k e = is_ne e _ _

-- the list at the day's descriptor, and the empty one where there is none
pub list_here : (f : List ℕ) (d p : ℕ) → length f ≤ most_bytes → day_verdict f p ≡ Ok tt → places_on f d ≡ places_in_list (list_of f p) → ListOn f d (list_place f (block_at f p)) (list_end f (block_at f p))
list_here f d p h v e =
    let b : BlockAt f p × (verdict_in (list_of f p) ≡ Ok tt) = day-fine f p v in
    record { list = record { list = record { inside = b.0.whole; size = h }; fine = b.1 }; places = e }

pub list_none : (f : List ℕ) (d : ℕ) → length f ≤ most_bytes → places_on f d ≡ [] → ListOn f d 0 0
list_none f d h e =
    let w = walk_end f 0 0 0 (omega arith) in
    record {
      list = record { list = record { inside = omega arith; size = h }; fine = ap verdict_in w ∙ verdict_end };
      places = e ∙ sym (ap places_in_list w ∙ places_end);
    }
