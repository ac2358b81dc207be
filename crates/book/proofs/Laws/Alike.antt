-- Two files with the same first bytes, up to the end record of a book or further: the same settings, the same records and the same walk in both.
-- Assumes nothing.
use Rattle.std.specs.Prelude.{Ok, Some, ℕ, suc, ◌+◌, ◌<◌, ◌≤◌, ◌≡◌, List, take}
use Rattle.std.proofs.Common.{sym, ◌∙◌, arith, zero-add, get_or-take}
use Rattle.std.proofs.Math.Path.{ap}
use Rattle.std.proofs.Math.ListN.{length}
use Rattle.prelude.proofs.Laws.Choice.{is_ge}
use Rattle.prelude.specs.Bytes.{byte, part, stretch_bytes}
use Rattle.prelude.proofs.Laws.Bytes.{part-part}
use Rattle.prelude.specs.declared.slices.Stretch.{Stretch}
use Rattle.book.specs.Settings.{book_identified, settings_of, settings_ok, first_record}
use Rattle.book.specs.Walk.{Walk, more, ended, stopped, type_at, body_length_at, body_at, next_place, step_at, walk_from}
use Rattle.book.specs.Fillers.{end_in}
use Rattle.book.specs.Books.{counted, entry_at}
use Rattle.book.proofs.Laws.Walk.{At, at_next, EndAt, record-step, end_step, walk-record, walk_end, walk_met}
use Rattle.book.specs.Invariants.{RecordAt}
use Rattle.book.proofs.Laws.Books.{refused_not_accepted}
use Rattle.book.proofs.Laws.Fillers.{Ended, walk_ended}
use Rattle.book.specs.declared.types.Book.{Book}

-- two files with the same first m bytes
pub record Alike (m : ℕ) (f g : List ℕ) : Type 0 where
  pub left : m ≤ length f
  pub right : m ≤ length g
  pub bytes : take m f ≡ take m g

module _ (m : ℕ) (f g : List ℕ) (s : Alike m f g) where
  byte-alike : (i : ℕ) → i < m → byte g i ≡ byte f i
  byte-alike i h = sym (get_or-take m g i 0 h) ∙ ap (λ (l : List ℕ). byte l i) (sym s.bytes) ∙ get_or-take m f i 0 h

  part-alike : (a n : ℕ) → a + n ≤ m → part g a n ≡ part f a n
  part-alike a n h =
      let whole : (l : List ℕ) → part (take m l) a n ≡ part l a n = λ l. rw (zero-add a) at (part-part l 0 m a n h) in
      sym (whole g) ∙ ap (λ (l : List ℕ). part l a n) (sym s.bytes) ∙ whole f

  pub stretch-alike : (p : Stretch) → p.place + p.length ≤ m → stretch_bytes g p ≡ stretch_bytes f p
  stretch-alike p h = part-alike p.place p.length h

  module _ (at : ℕ) (h : at + 3 ≤ m) where
    type-alike : type_at g at ≡ type_at f at
    type-alike = byte-alike at (omega arith)

    length-alike : body_length_at g at ≡ body_length_at f at
    length-alike = let a = byte-alike (at + 1) (omega arith) in let b = byte-alike (at + 1 + 1) (omega arith) in omega arith

    end-alike : EndAt f at → EndAt g at
    end-alike e = record { there = omega (arith, s.right); type = type-alike ∙ e.type; none = length-alike ∙ e.none }

    module _ (l : next_place f at ≤ m) where
      body_alike : body_at g at ≡ body_at f at
      body_alike = ap (part g (at + 3)) length-alike ∙ part-alike (at + 3) (body_length_at f at) l

      record-alike : RecordAt f at → RecordAt g at
      record-alike r =
          record {
            low = omega (arith, type-alike, r.low);
            high = omega (arith, type-alike, r.high);
            body = omega (arith, length-alike, l, s.right);
            fine = rw (type-alike, body_alike) r.fine;
          }

      pub entry-alike : entry_at g at ≡ entry_at f at
      unfolding entry_at
      entry-alike = rw (type-alike, body_alike)

  -- the first twelve bytes
  module _ (h : first_record ≤ m) where
    pub named-alike : book_identified g ≡ book_identified f
    unfolding book_identified
    named-alike =
        rw (byte-alike 0 (omega arith), byte-alike 1 (omega arith), byte-alike 2 (omega arith), byte-alike 3 (omega arith), byte-alike 4 (omega arith))

    pub settings-alike : settings_of g ≡ settings_of f
    unfolding settings_of
    settings-alike =
        rw (byte-alike 5 (omega arith), byte-alike 6 (omega arith), byte-alike 7 (omega arith), byte-alike 8 (omega arith), byte-alike 9 (omega arith), byte-alike 10 (omega arith), byte-alike 11 (omega arith))

    pub settings-ok-alike : settings_ok g ≡ settings_ok f
    unfolding settings_ok
    settings-ok-alike =
        let l : first_record ≤ length f = omega (arith, s.left) in
        let r : first_record ≤ length g = omega (arith, s.right) in
        rw (is_ge l, is_ge r, settings-alike, byte-alike 9 (omega arith), byte-alike 11 (omega arith))

  -- the walk, to the same end
  pub walk-alike :
      (n at : ℕ) {b : Book} → At f n at → At g n at → (w : Walk) → walk_from f n at ≡ w → counted f n w ≡ Ok b → end_in w ≤ m
      → walk_from g n at ≡ w
  unfolding counted end_in
  walk-alike n at a a' (more p w) e c l =
      let q = walk_met f n at a e in
      let z : Ended f (next_place f at) w = walk_ended f (suc n) (next_place f at) q.1.1.0 w q.1.1.1 c in
      let there : next_place f at ≤ m = omega (arith, z.behind) in
      let y : step_at g at ≡ Ok (Some (next_place f at)) =
      record-step g at (record-alike at (omega arith) there q.1.0) ∙ ap (λ (k : ℕ). Ok (Some (at + 3 + k))) (length-alike at (omega arith)) in
      rw q.0 (walk-record a' y ∙ ap (more at) (walk-alike (suc n) (next_place f at) q.1.1.0 (at_next a' y) w q.1.1.1 c l))
  walk-alike n at a a' (ended p) e c l =
      let q = walk_met f n at a e in
      walk_end a' (end_step g at (end-alike at (omega (arith, q.1)) q.0)) ∙ ap ended (sym q.1)
  walk-alike n at a a' (stopped r) e c l = absurd (refused_not_accepted c)
