-- A file piece by piece: its first twelve bytes, a record's bytes and the end record, each as it is written.
-- Assumes nothing.
use Rattle.std.specs.Prelude.{ℕ, zero, suc, ◌+◌, ◌≤◌, ◌≡◌, refl, true, List, [], ◌∷◌, ◌++◌, eqb, take, drop}
use Rattle.std.proofs.Common.{sym, ◌∙◌, arith, take-append-drop, length-drop, drop_of_length-le, drop-drop, length-take-le}
use Rattle.std.proofs.lemmas.Bool.{false≢true}
use Rattle.std.proofs.Math.ListN.{length}
use Rattle.prelude.specs.Choice.{if_b}
use Rattle.prelude.proofs.Laws.Choice.{lt_skip, eq_take, b_take}
use Rattle.prelude.proofs.Laws.Bytes.{bytes_from, drop-places, le16_join, bytes_at}
use Rattle.prelude.specs.Bytes.{bit, byte, word, le16, Bytes}
use Rattle.records.specs.Encoding.{encode}
use Rattle.records.proofs.Laws.Again.{encode_again}
use Rattle.book.specs.Settings.{book_mark, book_identified, settings_in_range, settings_of, flags_ok, settings_ok, first_record}
use Rattle.book.specs.Walk.{type_at, body_length_at, body_at, next_place}
use Rattle.book.specs.Invariants.{RecordAt}
use Rattle.book.proofs.Laws.Walk.{EndAt}
use Rattle.writer.specs.Writing.{open_bytes, end_bytes}
use Rattle.writer.specs.Again.{item_at, PlainAt}

bytes_drop : (k : ℕ) (s : List ℕ) → Bytes s → Bytes (drop k s)
bytes_drop zero s b = b
bytes_drop (suc k) [] b = b
bytes_drop (suc k) (x ∷ s) b = bytes_drop k s b.1

bytes_take : (k : ℕ) (s : List ℕ) → Bytes s → Bytes (take k s)
bytes_take zero s b = tt
bytes_take (suc k) [] b = b
bytes_take (suc k) (x ∷ s) b = (b.0, bytes_take k s b.1)

word_again : (f : List ℕ) → Bytes f → (i : ℕ) → le16 (word f i) ≡ byte f i ∷ (byte f (i + 1) ∷ [])
word_again f b i = le16_join (byte f i) (byte f (i + 1)) (bytes_at f b i) (bytes_at f b (i + 1))

flag_again : (x : ℕ) → x ≤ 1 → bit (eqb x 1) ≡ x
unfolding bit if_b
flag_again zero h = refl
flag_again (suc zero) h = refl
flag_again (suc (suc x)) h = absurd (omega arith)

-- what the settings' test says
record SettingsFine (f : List ℕ) : Type 0 where
  long : first_record ≤ length f
  range : settings_in_range (settings_of f) ≡ true
  alarm : byte f 9 ≤ 1
  carry : byte f 11 ≤ 1

settings_fine : (f : List ℕ) → settings_ok f ≡ true → SettingsFine f
unfolding settings_ok flags_ok
settings_fine f e =
    let e1 = lt_skip (length f) first_record _ _ false≢true e in
    let e2 = b_take (settings_in_range (settings_of f)) _ _ false≢true e1.1 in
    let e3 = lt_skip 1 (byte f 9) _ _ false≢true e2.1 in
    let e4 = lt_skip 1 (byte f 11) _ _ false≢true e3.1 in
    record { long = e1.0; range = e2.0; alarm = e3.0; carry = e4.0 }

pub settings_ok_range : (f : List ℕ) → settings_ok f ≡ true → settings_in_range (settings_of f) ≡ true
settings_ok_range f e = (settings_fine f e).range

first_twelve : (f : List ℕ) → Bytes f → book_identified f ≡ true → settings_ok f ≡ true → open_bytes (settings_of f) ≡ bytes_from 0 12 f
unfolding open_bytes settings_of book_identified book_mark
first_twelve f b i s =
    let v = settings_fine f s in
    let i0 = eq_take (byte f 0) 0xFF _ _ false≢true i in
    let i1 = eq_take (byte f 1) 0xFF _ _ false≢true i0.1 in
    let i2 = eq_take (byte f 2) 0x01 _ _ false≢true i1.1 in
    let i3 = eq_take (byte f 3) 0x00 _ _ false≢true i2.1 in
    let i4 = eq_take (byte f 4) 0x01 _ _ false≢true i3.1 in
    rw (i0.0, i1.0, i2.0, i3.0, i4.0, word_again f b 5, word_again f b 7, flag_again (byte f 9) v.alarm, flag_again (byte f 11) v.carry)

-- the first twelve bytes
pub open_again : (f : List ℕ) → Bytes f → book_identified f ≡ true → settings_ok f ≡ true → open_bytes (settings_of f) ++ drop first_record f ≡ f
open_again f b i s = rw (first_twelve f b i s) (sym (drop-places f 0 12 (settings_fine f s).long))

-- a record's bytes
module _ (f : List ℕ) (at : ℕ) (b : Bytes f) (r : RecordAt f at) where
  body-long : length (body_at f at) ≡ body_length_at f at
  body-long =
      let l : at + 3 + body_length_at f at ≤ length f = r.body in
      length-take-le (body_length_at f at) (drop (at + 3) f) (rw length-drop (omega arith))

  body-next : body_at f at ++ drop (next_place f at) f ≡ drop (at + 3) f
  body-next = rw (← drop-drop (body_length_at f at) (at + 3) f) (take-append-drop (body_length_at f at) (drop (at + 3) f))

  pub record-again : PlainAt f at → encode (item_at f at).kind (item_at f at).text (item_at f at).note ++ drop (next_place f at) f ≡ drop at f
  unfolding item_at
  record-again p =
      let l : at + 3 + body_length_at f at ≤ length f = r.body in
      let e = encode_again (type_at f at) (body_at f at) r.low r.high (bytes_take (body_length_at f at) _ (bytes_drop (at + 3) f b)) r.fine (body-long ∙ p.tight) p.named in
      rw (e, body-long, word_again f b (at + 1), body-next) (sym (drop-places f at 3 (omega arith)))

-- the end record
pub end_again : (f : List ℕ) (at : ℕ) → EndAt f at → length f ≤ at + 3 → end_bytes ≡ drop at f
end_again f at v h =
    let low : byte f (at + 1) ≡ 0 = omega (arith, v.none) in
    let high : byte f (at + 1 + 1) ≡ 0 = omega (arith, v.none) in
    sym (drop-places f at 3 v.there ∙ rw (v.type, low, high, drop_of_length-le f h))
