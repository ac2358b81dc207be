-- A whole record as encoded: its length, its text and note read back, no refusal, each element a byte.
-- Assumes nothing.
use Rattle.std.specs.Prelude.{Ok, Option, Some, None, ℕ, ◌+◌, ◌≤◌, ◌<◌, ◌≡◌, Bool, false, List, ◌∷◌, ◌++◌, drop}
use Rattle.std.proofs.Common.{◌∙◌, arith, length-append, drop-drop}
use Rattle.std.proofs.Math.Bool.{true}
use Rattle.std.proofs.lemmas.Bool.{false≢true}
use Rattle.std.proofs.Math.ListN.{length}
use Rattle.std.proofs.Math.Seq.{take-length, drop_at, take-append_seam, drop-append_seam}
use Rattle.prelude.specs.Choice.{if_b}
use Rattle.prelude.proofs.Laws.Choice.{is_true, is_ge, lt_skip}
use Rattle.prelude.specs.Bytes.{bit, Bytes, le16, be16}
use Rattle.prelude.proofs.Laws.Bytes.{length-le16, le16_bytes, bytes_append}
use Rattle.days.specs.Dates.{RealDate}
use Rattle.days.proofs.Laws.Dates.{valid_facts, length_bounds}
use Rattle.days.specs.declared.types.Date.{Date}
use Rattle.texts.specs.Notes.{no_zero, note_ok, most_text, most_note}
use Rattle.records.specs.Fields.{record_of, fixed_of, text_length, note_length, body_text, body_note}
use Rattle.records.specs.Ranges.{record_ok, check_off_ok, check_off_clean}
use Rattle.records.proofs.Laws.Ranges.{three_bytes, RepeatFacts, Facts, record_facts, record_fields}
use Rattle.records.specs.Bodies.{lengths_fit, lengths_ok, fields_ok, texts_ok, judge_body}
use Rattle.records.specs.Encoding.{date_bytes, check_off_bit, check_off_bytes, tail_bytes, from_start, fixed_bytes, type_of, body_bytes, encode}
use Rattle.records.proofs.Laws.Encoding.{type_range, length_fixed, decode-text_length, decode-note_length, decode_record, clean_typed}
use Rattle.records.specs.declared.types.Repeat.{Repeat}
use Rattle.records.specs.declared.types.Record.{Record}

-- "at most 440 bytes"
pub note_short : (n : List ℕ) → note_ok n ≡ true → length n ≤ most_note
unfolding note_ok
note_short n h = (lt_skip most_note (length n) _ _ false≢true h).0

module _ (r : Record) (text note : List ℕ) where
  pub length_body : length (body_bytes r text note) ≡ fixed_of (type_of r) + length text + length note
  unfolding body_bytes
  length_body = simp (length-append, length_fixed) (omega arith)

  pub length-encoded : length (encode r text note) ≡ 3 + fixed_of (type_of r) + length text + length note
  unfolding encode
  length-encoded = simp (length-append, length-le16, length_body) (omega arith)

  -- The two lengths stand in the body, and by them text and note are found.
  pub text-length-encoded : text_length (type_of r) (body_bytes r text note) ≡ length text
  unfolding body_bytes
  text-length-encoded = decode-text_length r (length text) (length note) (text ++ note)

  pub note-length-encoded : length note < 65536 → note_length (type_of r) (body_bytes r text note) ≡ length note
  unfolding body_bytes
  note-length-encoded h = decode-note_length r (length text) (length note) (text ++ note) h

  pub after-fixed : drop (fixed_of (type_of r)) (body_bytes r text note) ≡ text ++ note
  unfolding body_bytes
  after-fixed = drop_at (fixed_bytes r (length text) (length note)) (text ++ note) (fixed_of (type_of r)) (length_fixed r (length text) (length note))

  pub after_text : drop (fixed_of (type_of r) + length text) (body_bytes r text note) ≡ note
  after_text = rw (← drop-drop (length text) (fixed_of (type_of r)) (body_bytes r text note), after-fixed) (drop-append_seam text note)

  pub text-encoded : body_text (type_of r) (body_bytes r text note) ≡ text
  text-encoded = rw (text-length-encoded, after-fixed) (take-append_seam text note)

  pub note-encoded : length note < 65536 → body_note (type_of r) (body_bytes r text note) ≡ note
  note-encoded h = rw (text-length-encoded, note-length-encoded h, after_text) (take-length note)

  pub record-encoded : record_ok r ≡ true → record_of (type_of r) (body_bytes r text note) ≡ r
  unfolding body_bytes
  record-encoded h = decode_record r h (length text) (length note) (text ++ note)

  clean-body : type_of r ≡ 6 → check_off_clean (body_bytes r text note) ≡ true
  unfolding body_bytes
  clean-body e = clean_typed r (length text) (length note) (text ++ note) e

  -- No refusal.
  pub judge-encoded : record_ok r ≡ true → length text ≤ most_text → no_zero text ≡ true → note_ok note ≡ true → judge_body (type_of r) (body_bytes r text note) ≡ Ok tt
  unfolding judge_body lengths_ok lengths_fit texts_ok
  judge-encoded h k z o =
      let m : length note < 65536 = omega (arith, note_short note o) in
      let b = length_body in
      let e1 = text-length-encoded in
      let e2 = note-length-encoded m in
      let w = type_range r in
      let lengths : lengths_ok (type_of r) (body_bytes r text note) ≡ true =
      is_ge (omega arith) _ _ ∙ is_ge (omega arith) _ _ ∙ is_ge (omega arith) _ _ in
      let fields : fields_ok (type_of r) (body_bytes r text note) ≡ true =
      record_fields _ _ w.least w.most (rw (record-encoded h) h) clean-body in
      let texts : texts_ok (type_of r) (body_bytes r text note) ≡ true = rw (text-encoded, note-encoded m) (is_true z _ _ ∙ o) in
      is_true lengths _ _ ∙ is_true fields _ _ ∙ is_true texts _ _

-- Each element is a byte.
date_bytes_lem : (d : Date) → RealDate d → Bytes (date_bytes d)
unfolding date_bytes
date_bytes_lem d v =
    let p = three_bytes v in
    omega arith

check_bytes : (c : Option Date) → check_off_ok c ≡ true → Bytes (check_off_bytes c)
unfolding check_off_bytes check_off_ok
check_bytes None h = omega arith
check_bytes (Some d) h = date_bytes_lem d (valid_facts h)

pub state_byte : (b : Bool) → bit b < 2
unfolding bit if_b
state_byte true = omega arith
state_byte false = omega arith

pub check_bit : (c : Option Date) → check_off_bit c < 3
unfolding check_off_bit
check_bit None = omega arith
check_bit (Some d) = omega arith

start_bytes : (r : Repeat) (t n : ℕ) → RepeatFacts r → t < 256 → Bytes (from_start r t n)
unfolding from_start tail_bytes date_bytes be16 le16
start_bytes r t n f h =
    let p = three_bytes f.first in
    let q = three_bytes f.last in
    omega arith

pub fixed_bytes_lem : (r : Record) (t n : ℕ) → record_ok r ≡ true → t < 256 → Bytes (fixed_bytes r t n)
unfolding fixed_bytes date_bytes be16 le16
fixed_bytes_lem r t n h k = of r (record_facts r h)
  where
    of : (r : Record) → Facts r → Bytes (fixed_bytes r t n)
    of (Record.Dated d) f =
        let s = state_byte d.alarm in
        let p = three_bytes f.date in
        omega arith
    of (Record.Weekly w) f =
        (omega (arith, state_byte w.repeat.alarm), (omega arith, start_bytes w.repeat t n f.1 k))
    of (Record.MonthlyByDate m) f =
        (omega (arith, state_byte m.repeat.alarm), (omega arith, start_bytes m.repeat t n f.1 k))
    of (Record.MonthlyByPosition m) f =
        (omega (arith, state_byte m.repeat.alarm), (omega arith, (omega arith, start_bytes m.repeat t n f.2 k)))
    of (Record.Yearly y) f =
        let b = length_bounds 2000 y.month f.0.least f.0.most in
        (omega (arith, state_byte y.repeat.alarm), (omega arith, (omega arith, start_bytes y.repeat t n f.2 k)))
    of (Record.ToDo d) f =
        let s = state_byte d.carry_forward in
        let c = check_bit d.check_off in
        let q = bytes_append (check_off_bytes d.check_off) (t ∷ le16 n) (check_bytes d.check_off f.check) (k, le16_bytes n) in
        (omega arith, (omega arith, bytes_append (date_bytes d.start) (check_off_bytes d.check_off ++ (t ∷ le16 n)) (date_bytes_lem d.start f.start) q))

pub bytes_encoded : (r : Record) (text note : List ℕ) → record_ok r ≡ true → Bytes text → Bytes note → length text ≤ most_text → Bytes (encode r text note)
unfolding encode body_bytes
bytes_encoded r text note h bt bn k =
    let fixed = fixed_bytes_lem r (length text) (length note) h (omega arith) in
    let body = bytes_append (fixed_bytes r (length text) (length note)) (text ++ note) fixed (bytes_append text note bt bn) in
    (omega (arith, type_range r), bytes_append (le16 _) _ (le16_bytes _) body)
