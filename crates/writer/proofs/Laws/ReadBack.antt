-- The bytes of a book as they are read: the opening bytes give the settings, and the walk meets the items one by one and then the end record.
-- Assumes nothing.
use Rattle.std.specs.Prelude.{Ok, ℕ, zero, suc, ◌+◌, ◌≤◌, ◌<◌, ◌≡◌, Bool, true, false, eqb, length, get_or, drop}
use Rattle.std.proofs.Math.Path.{refl}
use Rattle.std.proofs.Common.{◌∙◌, ap, arith, add-zero}
use Rattle.std.proofs.lemmas.Bool.{false≢true}
use mathlib.Core.List.{List, [], ◌∷◌, ◌++◌}
use Rattle.prelude.specs.Choice.{if_eq, if_b}
use Rattle.prelude.proofs.Laws.Choice.{is_ge, lt_skip}
use Rattle.prelude.specs.Bytes.{bit, byte, le16}
use Rattle.prelude.proofs.Laws.Bytes.{word-le16}
use Rattle.days.specs.Days.{last_minute}
use Rattle.records.proofs.Laws.Bodies.{state_byte}
use Rattle.book.specs.Settings.{book_mark, book_identified, settings_in_range, settings_of, flags_ok, most_granularity}
use Rattle.book.specs.Walk.{walk_from, places_in, ended}
use Rattle.book.specs.Fillers.{end_in}
use Rattle.book.proofs.Laws.Fillers.{nothing_after}
use Rattle.book.specs.Books.{accepted, counted, entry_at}
use Rattle.book.proofs.Laws.Walk.{At, at_next, walk-record, walk_end}
use Rattle.book.specs.declared.types.Settings.{Settings}
use Rattle.writer.specs.Writing.{open_bytes}
use Rattle.writer.specs.Runs.{Item, record_bytes, Items, rest_bytes, item_bytes}
use Rattle.writer.proofs.Laws.Runs.{rest_item}
use Rattle.writer.proofs.Laws.Items.{Entered, item-next, item-step, item-entry, end-record-last, step-at-end-record}

-- The opening bytes.
record InRange (s : Settings) : Type 0 where
  start : s.start.0 ≤ last_minute
  granularity : s.granularity ≤ most_granularity

in_range : (s : Settings) → settings_in_range s ≡ true → InRange s
unfolding settings_in_range
in_range s e =
    let e1 = lt_skip last_minute s.start.0 _ _ false≢true e in
    let e2 = lt_skip s.granularity 1 _ _ false≢true e1.1 in
    let e3 = lt_skip most_granularity s.granularity _ _ false≢true e2.1 in
    record { start = e1.0; granularity = e3.0 }

flag_back : (b : Bool) → eqb (bit b) 1 ≡ b
unfolding bit if_b
flag_back true = refl
flag_back false = refl

module _ (s : Settings) (rest : List ℕ) where
  pub read-identified : book_identified (open_bytes s ++ rest) ≡ true
  unfolding book_identified book_mark open_bytes if_eq
  read-identified = refl

  pub settings_back : settings_in_range s ≡ true → settings_of (open_bytes s ++ rest) ≡ s
  unfolding settings_of open_bytes le16
  settings_back h =
      let r : InRange s = in_range s h in
      let e1 = word-le16 s.start.0 [] (omega arith) in
      let e2 = word-le16 s.granularity [] (omega arith) in
      let e3 = flag_back s.alarm in
      let e4 = flag_back s.carry_forward in
      λ j. record { start = record { 0 = e1 j }; granularity = e2 j; alarm = e3 j; lead = s.lead; carry_forward = e4 j }

  pub flags-back : flags_ok (byte (open_bytes s ++ rest) 9) (byte (open_bytes s ++ rest) 11) ≡ true
  unfolding flags_ok open_bytes le16
  flags-back =
      let a = state_byte s.alarm in
      let c = state_byte s.carry_forward in
      is_ge (omega arith) _ _ ∙ is_ge (omega arith) _ _

-- From a place on: the items are met, and then the end record.
pub record Walked (f : List ℕ) (n at : ℕ) (is : List Item) : Type 0 where
  pub count : counted f n (walk_from f n at) ≡ Ok (record { settings = settings_of f; records = n + length is })
  pub entries : (k : ℕ) (x : Item) → k < length is → Entered f (entry_at f (get_or (places_in (walk_from f n at)) k 0)) (get_or is k x)
  pub end : end_in (walk_from f n at) ≡ length f

at_end : (f : List ℕ) (n at : ℕ) → at ≡ length f → counted f n (ended at) ≡ Ok (record { settings = settings_of f; records = n + 0 })
unfolding counted accepted
at_end f n at h = rw (add-zero n) (ap (accepted (settings_of f) n) (nothing_after f at (omega arith)))

pub read_walked : (f : List ℕ) (is : List Item) (n at : ℕ) → Items is → At f n at → drop at f ≡ rest_bytes is → Walked f n at is
unfolding record_bytes counted places_in end_in
read_walked f [] n at o a d =
    record {
      count = rw (walk_end a (step-at-end-record f at d)) (at_end f n (at + 3) (end-record-last f at d));
      entries = λ k x h. absurd (omega arith);
      end = rw (walk_end a (step-at-end-record f at d)) (end-record-last f at d);
    }
read_walked f (i ∷ is) n at o a d =
    let d' : drop at f ≡ item_bytes i ++ rest_bytes is = d ∙ rest_item i is in
    let s = item-step f at i (rest_bytes is) d' o.0 in
    let w = walk-record a s in
    let g : Walked f (suc n) (at + length (item_bytes i)) is =
    read_walked f is (suc n) (at + length (item_bytes i)) o.1 (at_next a s) (item-next f at i (rest_bytes is) d') in
    let m : suc n + length is ≡ n + suc (length is) = omega arith in
    record {
      count = rw w (g.count ∙ ap (λ k. Ok (record { settings = settings_of f; records = k })) m);
      entries = rw w (on (places_in (walk_from f (suc n) (at + length (item_bytes i)))) (item-entry f at i (rest_bytes is) d' o.0) g.entries);
      end = rw w g.end;
    }
  where
    on :
        (ps : List ℕ) → Entered f (entry_at f at) i → ((k : ℕ) (x : Item) → k < length is → Entered f (entry_at f (get_or ps k 0)) (get_or is k x))
        → (k : ℕ) (x : Item) → k < suc (length is) → Entered f (entry_at f (get_or (at ∷ ps) k 0)) (get_or (i ∷ is) k x)
    on ps e g zero x h = e
    on ps e g (suc k) x h = g k x (omega arith)
