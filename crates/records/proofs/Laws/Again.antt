-- What was read is written again: an accepted body without padding, in whose state byte only named bits are set, is the encoding of what it holds.
-- Assumes nothing.
use Rattle.std.specs.Prelude.{Ok, Option, ℕ, zero, suc, ◌+◌, ◌-◌, ◌≤◌, ◌≡◌, refl, true, List, [], ◌∷◌, ◌++◌, length, take, drop}
use Rattle.std.proofs.Common.{sym, ◌∙◌, arith, length-drop, take-append-drop, take_all, drop-drop}
use Rattle.std.proofs.lemmas.Bool.{false≢true}
use Rattle.prelude.specs.Choice.{if_eq, if_b}
use Rattle.prelude.proofs.Laws.Choice.{is_ge, is_true, is_false, eq_elim, b_elim, eq_take, lt_skip}
use Rattle.prelude.proofs.Laws.Bytes.{part-places, le16_join, be16_join, bytes_at}
use Rattle.prelude.specs.Bytes.{bit, byte, word, word_high, Bytes, le16, be16}
use Rattle.records.specs.Fields.{date_at, bit0, bit1, dated_of, repeat_of, weekly_of, monthly_by_date_of, monthly_by_position_of, yearly_of, to_do_of, check_off_of, record_of, fixed_of, text_length, note_length, body_text, body_note}
use Rattle.records.specs.Ranges.{three_zeros, check_off_clean}
use Rattle.records.proofs.Laws.Ranges.{Within, fields_clean}
use Rattle.records.specs.Bodies.{judge_body}
use Rattle.records.proofs.Laws.Judged.{fixed_range, body_judged, text_long, note_long}
use Rattle.records.specs.Encoding.{plain_state, date_bytes, check_off_bit, check_off_bytes, tail_bytes, from_start, fixed_bytes, type_of, body_bytes, encode}
use Rattle.records.proofs.Laws.Bodies.{state_byte, check_bit}
use Rattle.records.specs.declared.types.Record.{Record}
use Rattle.days.specs.declared.types.Date.{Date}

-- One field is written again.
state_again : (x : ℕ) (q : List ℕ) → x ≤ 1 → bit (bit0 (x ∷ q)) ≡ x
unfolding bit if_b
state_again zero q h = refl
state_again (suc zero) q h = refl
state_again (suc (suc x)) q h = absurd (omega arith)

date_again : (p : List ℕ) (i : ℕ) → date_bytes (date_at p i) ≡ byte p i ∷ (byte p (i + 1) ∷ (byte p (i + 2) ∷ []))
unfolding date_bytes
date_again p i =
    let e : 1900 + byte p i - 1900 ≡ byte p i = omega arith in
    rw e

low_again : (p : List ℕ) → Bytes p → (i : ℕ) → le16 (word p i) ≡ byte p i ∷ (byte p (i + 1) ∷ [])
low_again p b i = le16_join (byte p i) (byte p (i + 1)) (bytes_at p b i) (bytes_at p b (i + 1))

high_again : (p : List ℕ) → Bytes p → (i : ℕ) → be16 (word_high p i) ≡ byte p i ∷ (byte p (i + 1) ∷ [])
high_again p b i = be16_join (byte p i) (byte p (i + 1)) (bytes_at p b i) (bytes_at p b (i + 1))

-- what types 2 to 5 share, behind the byte a
repeat_again : (x a : ℕ) (q : List ℕ) → Bytes q → 14 ≤ length q → from_start (repeat_of (x ∷ (a ∷ q)) 2) (byte q 11) (word q 12) ≡ take 14 q
unfolding from_start tail_bytes repeat_of
repeat_again x a q b l =
    rw (high_again q b 0, date_again q 2, low_again q b 5, date_again q 7, low_again q b 12, part-places q 0 14 l)

-- and the state in front, with the bytes m between
framed : (x a : ℕ) (m q : List ℕ) → Bytes q → 14 ≤ length q → x ≤ 1 → bit (bit0 (x ∷ q)) ∷ (m ++ from_start (repeat_of (x ∷ (a ∷ q)) 2) (byte q 11) (word q 12)) ≡ x ∷ (m ++ take 14 q)
framed x a m q b l h = rw (state_again x q h, repeat_again x a q b l)

-- a to-do's state and check-off date
bits_again : (x : ℕ) (q : List ℕ) → x ≤ 3 → bit (bit0 (x ∷ q)) + if_b (bit1 (x ∷ q)) 2 0 ≡ x
unfolding bit if_b
bits_again zero q h = refl
bits_again (suc zero) q h = refl
bits_again (suc (suc zero)) q h = refl
bits_again (suc (suc (suc zero))) q h = refl
bits_again (suc (suc (suc (suc x)))) q h = absurd (omega arith)

record Checked (x : ℕ) (q : List ℕ) (c : Option Date) : Type 0 where
  state : bit (bit0 (x ∷ q)) + check_off_bit c ≡ x
  date : check_off_bytes c ≡ byte q 4 ∷ (byte q 5 ∷ (byte q 6 ∷ []))

check_again : (x : ℕ) (q : List ℕ) → x ≤ 3 → check_off_clean (x ∷ q) ≡ true → Checked x q (check_off_of (x ∷ q))
unfolding check_off_of check_off_clean three_zeros check_off_bit check_off_bytes
check_again x q h clean =
    b_elim (Checked x q) (bit1 (x ∷ q)) _ _
    (λ e. record { state = rw (is_true e {X = ℕ} 2 0) at (bits_again x q h); date = date_again q 4 })
    (λ e.
    let z1 = eq_take (byte q 4) 0 _ _ false≢true (sym (is_false e _ _) ∙ clean) in
    let z2 = eq_take (byte q 5) 0 _ _ false≢true z1.1 in
    let z3 = eq_take (byte q 6) 0 _ _ false≢true z2.1 in
    record { state = rw (is_false e {X = ℕ} 2 0) at (bits_again x q h); date = rw (z1.0, z2.0, z3.0) })

-- The fixed bytes are written again.
abbrev FixedAgain : ℕ → List ℕ → Type 0
FixedAgain t p = fixed_bytes (record_of t p) (text_length t p) (note_length t p) ≡ take (fixed_of t) p

fixed_of_lem :
    (t x a c : ℕ) (q : List ℕ)
    → Within 1 t 6 → Bytes (x ∷ (a ∷ (c ∷ q))) → fixed_of t ≤ 3 + length q → x ≤ if_eq t 6 3 1 → (t ≡ 6 → check_off_clean (x ∷ (a ∷ (c ∷ q))) ≡ true) → FixedAgain t (x ∷ (a ∷ (c ∷ q)))
unfolding record_of fixed_of if_eq fixed_bytes dated_of weekly_of monthly_by_date_of monthly_by_position_of yearly_of repeat_of to_do_of
fixed_of_lem zero x a c q w b l h k = absurd (omega arith)
fixed_of_lem (suc zero) x a c q w b l h k =
    let r : List ℕ = a ∷ (c ∷ q) in
    rw (state_again x r h, date_again r 0, high_again r b.1 3, low_again r b.1 5, low_again r b.1 9, part-places r 0 11 (omega arith))
fixed_of_lem (suc (suc zero)) x a c q w b l h k = framed x a (a ∷ []) (c ∷ q) b.1.1 (omega arith) h
fixed_of_lem (suc (suc (suc zero))) x a c q w b l h k = framed x a (a ∷ []) (c ∷ q) b.1.1 (omega arith) h
fixed_of_lem (suc (suc (suc (suc zero)))) x a c q w b l h k = framed x c (a ∷ (c ∷ [])) q b.1.1.1 (omega arith) h
fixed_of_lem (suc (suc (suc (suc (suc zero))))) x a c q w b l h k = framed x c (a ∷ (c ∷ [])) q b.1.1.1 (omega arith) h
fixed_of_lem (suc (suc (suc (suc (suc (suc zero)))))) x a c q w b l h k =
    let r : List ℕ = a ∷ (c ∷ q) in
    let m = check_again x r h (k refl) in
    rw (m.state, date_again r 1, m.date, low_again r b.1 8, part-places r 0 10 (omega arith))
fixed_of_lem (suc (suc (suc (suc (suc (suc (suc t))))))) x a c q w b l h k = absurd (omega arith)

fixed_again : (t : ℕ) (p : List ℕ) → Within 1 t 6 → Bytes p → fixed_of t ≤ length p → byte p 0 ≤ if_eq t 6 3 1 → (t ≡ 6 → check_off_clean p ≡ true) → FixedAgain t p
fixed_again t [] w b l h k = absurd (omega (arith, fixed_range t))
fixed_again t (x ∷ []) w b l h k = absurd (omega (arith, fixed_range t))
fixed_again t (x ∷ (a ∷ [])) w b l h k = absurd (omega (arith, fixed_range t))
fixed_again t (x ∷ (a ∷ (c ∷ q))) w b l h k = fixed_of_lem t x a c q w b (omega arith) h k

-- Text and note follow.
rest_again : (t : ℕ) (p : List ℕ) → length p ≡ fixed_of t + text_length t p + note_length t p → body_text t p ++ body_note t p ≡ drop (fixed_of t) p
rest_again t p e =
    rw (take_all (note_length t p) (drop (fixed_of t + text_length t p) p) (rw length-drop (omega arith)), ← drop-drop (text_length t p) (fixed_of t) p)
    (take-append-drop (text_length t p) (drop (fixed_of t) p))

-- The type is that of the record.
pub type_again : (t : ℕ) (p : List ℕ) → 1 ≤ t → t ≤ 6 → type_of (record_of t p) ≡ t
unfolding record_of type_of
type_again t p low high =
    eq_elim P t 1 _ _ (λ e. sym e)
    (λ n1. eq_elim P t 2 _ _ (λ e. sym e)
    (λ n2. eq_elim P t 3 _ _ (λ e. sym e)
    (λ n3. eq_elim P t 4 _ _ (λ e. sym e) (λ n4. eq_elim P t 5 _ _ (λ e. sym e) (λ n5. omega arith)))))
  where
    P : Record → Type 0
    P r = type_of r ≡ t

pub body_again :
    (t : ℕ) (p : List ℕ) → 1 ≤ t → t ≤ 6 → Bytes p → judge_body t p ≡ Ok tt
    → length p ≡ fixed_of t + text_length t p + note_length t p → plain_state t p ≡ true → body_bytes (record_of t p) (body_text t p) (body_note t p) ≡ p
unfolding body_bytes plain_state
body_again t p low high b j e s =
    let v = body_judged t p j in
    let h = (lt_skip (if_eq t 6 3 1) (byte p 0) _ _ false≢true s).0 in
    let f = fixed_again t p (record { least = low; most = high }) b (omega arith) h (λ k. fields_clean p (rw k at v.fields)) in
    rw (text_long t p (omega arith), note_long t p (omega arith), f, rest_again t p e) (take-append-drop (fixed_of t) p)

pub encode_again :
    (t : ℕ) (p : List ℕ) → 1 ≤ t → t ≤ 6 → Bytes p → judge_body t p ≡ Ok tt
    → length p ≡ fixed_of t + text_length t p + note_length t p → plain_state t p ≡ true → encode (record_of t p) (body_text t p) (body_note t p) ≡ t ∷ (le16 (length p) ++ p)
unfolding encode
encode_again t p low high b j e s = rw (type_again t p low high, body_again t p low high b j e s)

-- What is encoded has no other bits set.
pub plain_encoded : (r : Record) (text note : List ℕ) → plain_state (type_of r) (body_bytes r text note) ≡ true
unfolding plain_state body_bytes fixed_bytes type_of if_eq
plain_encoded (Record.Dated d) text note = is_ge (omega (arith, state_byte d.alarm)) _ _
plain_encoded (Record.Weekly w) text note = is_ge (omega (arith, state_byte w.repeat.alarm)) _ _
plain_encoded (Record.MonthlyByDate m) text note = is_ge (omega (arith, state_byte m.repeat.alarm)) _ _
plain_encoded (Record.MonthlyByPosition m) text note = is_ge (omega (arith, state_byte m.repeat.alarm)) _ _
plain_encoded (Record.Yearly y) text note = is_ge (omega (arith, state_byte y.repeat.alarm)) _ _
plain_encoded (Record.ToDo d) text note = is_ge (omega (arith, state_byte d.carry_forward, check_bit d.check_off)) _ _
