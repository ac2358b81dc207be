-- A day's block and its descriptor as they are written are read back: the day, the block's place, and its appointments.
-- Assumes nothing.
use Rattle.std.specs.Prelude.{Ok, ℕ, ◌+◌, ◌*◌, ◌<◌, ◌≤◌, ◌≡◌, List, ◌++◌, map, length}
use Rattle.std.proofs.Common.{sym, ap, ◌∙◌, append_assoc, arith}
use Rattle.prelude.specs.Bytes.{word, le16}
use Rattle.days.specs.Days.{last_day}
use Rattle.calendar.specs.File.{Day, appointments_bytes, block_bytes, alarms, descriptor_bytes, last_block}
use Rattle.calendar.specs.Lists.{places_in_list}
use Rattle.calendar.specs.Reader.{table_end, day_at, offset_at, block_at, list_place, list_end, list_of, day_verdict}
use Rattle.calendar.specs.Shown.{appointment_at}
use Rattle.calendar.specs.Invariants.{BlockAt}
use Rattle.calendar.proofs.Laws.Reader.{facts-block, day-list}
use Rattle.calendar_writer.proofs.Laws.From.{From, from-recast, from-place-equal, from-skip, next_word, word-here}
use Rattle.calendar_writer.proofs.Laws.ListRead.{GoodList, ListRead, list_read}

-- the bytes of a day's appointments
abbrev pub list_bytes : Day → List ℕ
list_bytes d = appointments_bytes d.appointments

-- a day that the reader takes as it is
pub record GoodDay (d : Day) : Type 0 where
  pub known : d.day ≤ last_day
  pub size : length (list_bytes d) < 65536
  pub list : GoodList 0 d.appointments

-- what is read of a block that is written at b
record BlockRead (f : List ℕ) (b : ℕ) (d : Day) : Type 0 where
  zero : word f b ≡ 0
  day : word f (b + 2) ≡ d.day
  one : word f (b + 4) ≡ 1
  place : list_place f b ≡ b + 10
  ends : list_end f b ≡ b + 10 + length (list_bytes d)
  inside : b + 10 + length (list_bytes d) ≤ length f
  list : ListRead f (list_end f b) 0 (list_place f b) d.appointments

five : (a b c e g l post : List ℕ) → (a ++ (b ++ (c ++ (e ++ (g ++ l))))) ++ post ≡ a ++ (b ++ (c ++ (e ++ (g ++ (l ++ post)))))
five a b c e g l post = simp append_assoc

block_read : {f : List ℕ} {b : ℕ} (d : Day) (post : List ℕ) → GoodDay d → From f b (block_bytes d ++ post) → BlockRead f b d
unfolding block_bytes
block_read {f} {b} d post g h =
    let w1 = word-here 0 (omega arith) (from-recast h (five (le16 0) (le16 d.day) (le16 1) (le16 0) (le16 (length (list_bytes d))) (list_bytes d) post)) in
    let w2 = word-here d.day (omega arith) w1.1 in
    let h3 : From f (b + 4) (le16 1 ++ (le16 0 ++ (le16 (length (list_bytes d)) ++ (list_bytes d ++ post)))) = from-place-equal w2.1 (omega arith) in
    let w3 = word-here 1 (omega arith) h3 in
    let h4 : From f (b + 6) (le16 0 ++ (le16 (length (list_bytes d)) ++ (list_bytes d ++ post))) = from-place-equal w3.1 (omega arith) in
    let w4 = word-here 0 (omega arith) h4 in
    let h5 : From f (b + 8) (le16 (length (list_bytes d)) ++ (list_bytes d ++ post)) = from-place-equal w4.1 (omega arith) in
    let w5 = word-here (length (list_bytes d)) g.size h5 in
    let p : list_place f b ≡ b + 10 = omega (arith, w4.0) in
    let e : list_end f b ≡ b + 10 + length (list_bytes d) = omega (arith, w4.0, w5.0) in
    let l : From f (b + 10) (list_bytes d ++ post) = from-place-equal w5.1 (omega arith) in
    record {
      zero = w1.0;
      day = w2.0;
      one = w3.0;
      place = p;
      ends = e;
      inside = (from-skip (list_bytes d) l).place;
      list = list_read (list_end f b) 0 (list_place f b) d.appointments post g.list (from-place-equal l (sym p)) (omega arith);
    }

-- what is read of a descriptor that is written at p
pub record Described (f : List ℕ) (p u : ℕ) (d : Day) (post : List ℕ) : Type 0 where
  pub day : day_at f p ≡ d.day
  pub offset : offset_at f p ≡ u
  pub next : From f (p + 12) post

pub day_described : {f : List ℕ} {p : ℕ} (u : ℕ) (d : Day) (post : List ℕ) → d.day ≤ last_day → u ≤ last_block → From f p (descriptor_bytes u d ++ post) → Described f p u d post
unfolding descriptor_bytes
day_described {f} {p} u d post k l h =
    let w1 = word-here d.day (omega arith) (from-recast h (five (le16 d.day) (le16 0) (le16 (alarms d.appointments)) (le16 u) (le16 0x0FFF) (le16 0x0FFF) post)) in
    let h4 : From f (p + 6) (le16 u ++ (le16 0x0FFF ++ (le16 0x0FFF ++ post))) = from-place-equal (next_word (alarms d.appointments) (next_word 0 w1.1)) (omega arith) in
    let w4 = word-here u (omega arith) h4 in
    record { day = w1.0; offset = w4.0; next = from-place-equal (next_word 0x0FFF (next_word 0x0FFF w4.1)) (omega arith) }

-- a day is read without refusal, and shows what was written
pub record DayRead (f : List ℕ) (p : ℕ) (d : Day) : Type 0 where
  pub fine : day_verdict f p ≡ Ok tt
  pub shown : map (appointment_at f) (places_in_list (list_of f p)) ≡ d.appointments

pub day_read : {f : List ℕ} {p : ℕ} (u : ℕ) (d : Day) (post after : List ℕ) → GoodDay d → u ≤ last_block → table_end f ≤ 64 * u → Described f p u d post → From f (64 * u) (block_bytes d ++ after) → DayRead f p d
day_read {f} {p} u d post after g l t s h =
    let q : block_at f p ≡ 64 * u = ap (λ (n : ℕ). 64 * n) s.offset in
    let r : BlockRead f (block_at f p) d = block_read d after g (from-place-equal h (sym q)) in
    let b : BlockAt f p =
    record {
      low_bits = omega (arith, s.offset);
      behind = omega arith;
      words = omega (arith, r.inside);
      zero = r.zero;
      day = r.day ∙ sym s.day;
      one = r.one;
      whole = omega (arith, r.ends, r.inside);
    } in
    record { fine = day-list f p (facts-block f p b) ∙ r.list.fine; shown = r.list.shown }
