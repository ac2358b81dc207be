-- Laws of an accepted book: its count and its records, and the cursor that walks them without starting over.
-- Assumes nothing.
use Rattle.std.specs.Prelude.{Result, Ok, Err, Option, Some, None, ℕ, suc, ◌+◌, ◌<◌, ◌≤◌, ◌≡◌, refl, true, List, [], ◌∷◌}
use Rattle.std.proofs.Common.{sym, ◌∙◌, arith, add-zero, zero-add, drop-cons}
use Rattle.std.proofs.Math.Path.{ap}
use Rattle.std.proofs.lemmas.Bool.{false≢true}
use lib.ListN.{length, get_or, drop}
use Rattle.prelude.proofs.Laws.Choice.{lt_skip, b_take}
use Rattle.prelude.specs.declared.refusals.Refusal.{Refusal}
use Rattle.book.specs.Settings.{book_identified, settings_of, settings_ok, first_record}
use Rattle.book.specs.Walk.{next_place, step_at, Walk, more, ended, stopped, walk_from, walk_of, places_in}
use Rattle.book.specs.Fillers.{after_end_record}
use Rattle.book.specs.Books.{accepted, counted, book_of, places_of, most_book_bytes}
use Rattle.book.proofs.Laws.Walk.{At, at_first, at_next, step-record, walk-record, walk_end, walk-stop}
use Rattle.book.specs.Invariants.{RecordAt, AcceptedBook}
use Rattle.book.specs.declared.types.Settings.{Settings}
use Rattle.book.specs.declared.types.Book.{Book}
use Rattle.prelude.specs.Verdicts.{Verdict}
use Rattle.prelude.proofs.Laws.Results.{err_not_ok, ok_inj}

pub refused_not_accepted : {e : Refusal} {b : Book} → ◌≡◌ {A = Result Book Refusal} (Err e) (Ok b) → ⊥
refused_not_accepted = err_not_ok

given : (s : Settings) (n : ℕ) (v : Verdict) (b : Book) → accepted s n v ≡ Ok b → (b.settings ≡ s) × (b.records ≡ n)
unfolding accepted
given s n (Ok tt) b e =
    let q : ◌≡◌ {A = Book} (record { settings = s; records = n }) b = ok_inj e in
    (ap (λ (x : Book). x.settings) (sym q), ap (λ (x : Book). x.records) (sym q))
given s n (Err r) b e = absurd (refused_not_accepted e)

counted-accepted : (f : List ℕ) (n : ℕ) (w : Walk) (b : Book) → counted f n w ≡ Ok b → (b.settings ≡ settings_of f) × (b.records ≡ n + length (places_in w))
unfolding counted places_in
counted-accepted f n (more at w) b e =
    let h = counted-accepted f (suc n) w b e in (h.0, h.1 ∙ omega arith)
counted-accepted f n (ended m) b e =
    let h = given (settings_of f) n (after_end_record f m) b e in (h.0, h.1 ∙ sym (add-zero n))
counted-accepted f n (stopped r) b e = absurd (refused_not_accepted e)

pub settings_long : (f : List ℕ) → settings_ok f ≡ true → first_record ≤ length f
unfolding settings_ok
settings_long f e = (lt_skip (length f) first_record _ _ false≢true e).0

pub book_accepted : (f : List ℕ) {b : Book} → book_of f ≡ Ok b → AcceptedBook f b
unfolding book_of places_of
book_accepted f {b} e =
    let e1 = lt_skip most_book_bytes (length f) _ _ refused_not_accepted e in
    let e2 = b_take (book_identified f) _ _ refused_not_accepted e1.1 in
    let e3 = b_take (settings_ok f) _ _ refused_not_accepted e2.1 in
    let h = counted-accepted f 0 (walk_of f) b e3.1 in
    record {
      size = e1.0;
      named = e2.0;
      long = settings_long f e3.0;
      set = e3.0;
      settings = h.0;
      count = h.1 ∙ zero-add _;
    }

-- what is behind its settings
pub walk-counted : (f : List ℕ) {b : Book} → book_of f ≡ Ok b → counted f 0 (walk_of f) ≡ Ok b
unfolding book_of
walk-counted f h =
    let e1 = lt_skip most_book_bytes (length f) _ _ refused_not_accepted h in
    let e2 = b_take (book_identified f) _ _ refused_not_accepted e1.1 in
    (b_take (settings_ok f) _ _ refused_not_accepted e2.1).1

-- the place of record n: what is ahead of it are the records from n on
pub record Cursor (f : List ℕ) (n at : ℕ) : Type 0 where
  pub here : At f n at
  pub ahead : drop n (places_of f) ≡ places_in (walk_from f n at)

pub cursor_first : (f : List ℕ) → first_record ≤ length f → Cursor f 0 first_record
unfolding places_of walk_of
cursor_first f h = record { here = at_first h; ahead = refl }

-- a record ahead
pub record Ahead (f : List ℕ) (n at : ℕ) : Type 0 where
  pub step : step_at f at ≡ Ok (Some (next_place f at))
  pub place : get_or (places_of f) n 0 ≡ at
  pub entry : RecordAt f at
  pub next : Cursor f (suc n) (next_place f at)

module _ (f : List ℕ) (n at : ℕ) (c : Cursor f n at) (h : n < length (places_of f)) where
  heads : {w : Walk} → walk_from f n at ≡ w → get_or (places_of f) n 0 ∷ drop (suc n) (places_of f) ≡ places_in w
  heads e = sym (drop-cons (places_of f) n 0 h) ∙ c.ahead ∙ ap places_in e

  no-places : {w : Walk} → walk_from f n at ≡ w → places_in w ≡ [] → ⊥
  no-places e p = let q : length (get_or (places_of f) n 0 ∷ drop (suc n) (places_of f)) ≡ 0 = ap length (heads e ∙ p) in omega arith

  by-step : (x : Result (Option ℕ) Refusal) → step_at f at ≡ x → Ahead f n at
  unfolding places_in
  by-step (Ok (Some m)) e =
      let s : RecordAt f at × (m ≡ next_place f at) = step-record f at e in
      let e' : step_at f at ≡ Ok (Some (next_place f at)) = e ∙ ap (λ (q : ℕ). Ok (Some q)) s.1 in
      let q : get_or (places_of f) n 0 ∷ drop (suc n) (places_of f) ≡ at ∷ places_in (walk_from f (suc n) (next_place f at)) = heads (walk-record c.here e') in
      record {
        step = e';
        place = cc;
        entry = s.0;
        next = record { here = at_next c.here e'; ahead = cc };
      }
  by-step (Ok None) e = absurd (no-places (walk_end c.here e) refl)
  by-step (Err r) e = absurd (no-places (walk-stop c.here e) refl)

  pub cursor-ahead : Ahead f n at
  cursor-ahead = by-step (step_at f at) refl

-- the last record is behind when all are counted
pub cursor_done : (f : List ℕ) (n at : ℕ) → Cursor f n at → length (places_of f) ≤ n → places_in (walk_from f n at) ≡ []
cursor_done f n at c h = sym c.ahead ∙ lib.ListN.drop_of_length-le (places_of f) h
