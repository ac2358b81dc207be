-- The fixed bytes as encoded are read back: the lengths of text and note, each field, the record.
-- Assumes nothing.
use Rattle.std.specs.Prelude.{Option, Some, None, ℕ, ◌+◌, ◌-◌, ◌≤◌, ◌<◌, ◌≡◌, Bool, length}
use Rattle.std.proofs.Math.Path.{refl, ap}
use Rattle.std.proofs.Math.Bool.{true, false}
use mathlib.Core.List.{List, [], ◌∷◌, ◌++◌}
use Rattle.std.proofs.Common.{arith}
use Rattle.prelude.specs.Choice.{if_eq, if_b}
use Rattle.prelude.specs.Bytes.{bit, byte, le16, be16}
use Rattle.prelude.proofs.Laws.Bytes.{word-le16, word_high-be16}
use Rattle.days.proofs.Laws.Dates.{valid_facts}
use Rattle.days.specs.declared.types.Date.{Date}
use Rattle.days.specs.declared.types.Minute.{Minute}
use Rattle.records.specs.Fields.{date_at, start_at, minute_field, bit0, dated_of, repeat_of, weekly_of, monthly_by_date_of, monthly_by_position_of, yearly_of, to_do_of, check_off_of, record_of, fixed_of, text_length, note_length}
use Rattle.records.specs.Ranges.{record_ok, check_off_ok, three_zeros, check_off_clean}
use Rattle.records.proofs.Laws.Ranges.{Within, DatedFacts, RepeatFacts, ToDoFacts, record_facts}
use Rattle.records.specs.Encoding.{date_bytes, check_off_bit, check_off_bytes, tail_bytes, from_start, fixed_bytes, type_of}
use Rattle.records.specs.declared.types.Dated.{Dated}
use Rattle.records.specs.declared.types.Repeat.{Repeat}
use Rattle.records.specs.declared.types.ToDo.{ToDo}
use Rattle.records.specs.declared.types.Record.{Record}

pub type_range : (r : Record) → Within 1 (type_of r) 6
unfolding type_of
type_range (Record.Dated d) = omega arith
type_range (Record.Weekly w) = omega arith
type_range (Record.MonthlyByDate m) = omega arith
type_range (Record.MonthlyByPosition m) = omega arith
type_range (Record.Yearly y) = omega arith
type_range (Record.ToDo d) = omega arith

-- A check-off's three bytes, by place.
check_places : (c : Option Date) → check_off_bytes c ≡ byte (check_off_bytes c) 0 ∷ (byte (check_off_bytes c) 1 ∷ (byte (check_off_bytes c) 2 ∷ []))
unfolding check_off_bytes date_bytes
check_places None = refl
check_places (Some d) = refl

-- The fixed bytes are as many as the table says.
pub length_fixed : (r : Record) (t n : ℕ) → length (fixed_bytes r t n) ≡ fixed_of (type_of r)
unfolding fixed_bytes from_start tail_bytes date_bytes le16 be16 fixed_of type_of if_eq
length_fixed (Record.Dated d) t n = refl
length_fixed (Record.Weekly w) t n = refl
length_fixed (Record.MonthlyByDate m) t n = refl
length_fixed (Record.MonthlyByPosition m) t n = refl
length_fixed (Record.Yearly y) t n = refl
length_fixed (Record.ToDo d) t n = rw (check_places d.check_off)

-- Their last three are the lengths of text and note.
pub decode-text_length : (r : Record) (t n : ℕ) (rest : List ℕ) → text_length (type_of r) (fixed_bytes r t n ++ rest) ≡ t
unfolding fixed_bytes from_start tail_bytes date_bytes le16 be16 fixed_of type_of if_eq
decode-text_length (Record.Dated d) t n rest = refl
decode-text_length (Record.Weekly w) t n rest = refl
decode-text_length (Record.MonthlyByDate m) t n rest = refl
decode-text_length (Record.MonthlyByPosition m) t n rest = refl
decode-text_length (Record.Yearly y) t n rest = refl
decode-text_length (Record.ToDo d) t n rest = rw (check_places d.check_off)

pub decode-note_length : (r : Record) (t n : ℕ) (rest : List ℕ) → n < 65536 → note_length (type_of r) (fixed_bytes r t n ++ rest) ≡ n
unfolding fixed_bytes from_start tail_bytes date_bytes le16 be16 fixed_of type_of if_eq
decode-note_length (Record.Dated d) t n rest h = word-le16 n rest h
decode-note_length (Record.Weekly w) t n rest h = word-le16 n rest h
decode-note_length (Record.MonthlyByDate m) t n rest h = word-le16 n rest h
decode-note_length (Record.MonthlyByPosition m) t n rest h = word-le16 n rest h
decode-note_length (Record.Yearly y) t n rest h = word-le16 n rest h
decode-note_length (Record.ToDo d) t n rest h = rw (check_places d.check_off) (word-le16 n rest h)

-- One field is read back.
date_back : (d : Date) (rest : List ℕ) → 1900 ≤ d.year → date_at (date_bytes d ++ rest) 0 ≡ d
unfolding date_bytes
date_back d rest h =
    let e : 1900 + (d.year - 1900) ≡ d.year = omega arith in
    λ i. record { year = e i; month = d.month; day = d.day }

start_back : (m : Minute) (rest : List ℕ) → m.0 < 65536 → start_at (be16 m.0 ++ rest) 0 ≡ m
start_back m rest h = λ i. record { 0 = word_high-be16 m.0 rest h i }

end_back : (m : Minute) (rest : List ℕ) → m.0 < 65536 → minute_field (le16 m.0 ++ rest) 0 ≡ m
end_back m rest h = λ i. record { 0 = word-le16 m.0 rest h i }

state_back : (b : Bool) (rest : List ℕ) → bit0 (bit b ∷ rest) ≡ b
unfolding bit if_b
state_back true rest = refl
state_back false rest = refl

-- One kind is read back.
dated_back : (d : Dated) → DatedFacts d → (t n : ℕ) (rest : List ℕ) → dated_of (fixed_bytes (Record.Dated d) t n ++ rest) ≡ d
unfolding dated_of fixed_bytes date_bytes le16 be16
dated_back d f t n rest =
    let e1 = state_back d.alarm [] in
    let e2 = date_back d.date [] (omega arith) in
    let e3 = start_back d.start [] (omega arith) in
    let e4 = end_back d.end [] (omega arith) in
    λ i. record { alarm = e1 i; date = e2 i; start = e3 i; end = e4 i; lead = d.lead }

repeat_back : (r : Repeat) → RepeatFacts r → (a t n : ℕ) (rest : List ℕ) → repeat_of (bit r.alarm ∷ (a ∷ (from_start r t n ++ rest))) 2 ≡ r
unfolding repeat_of from_start tail_bytes date_bytes le16 be16
repeat_back r f a t n rest =
    let e1 = state_back r.alarm [] in
    let e2 = start_back r.start [] (omega arith) in
    let e3 = date_back r.first [] (omega arith) in
    let e4 = end_back r.end [] (omega arith) in
    let e5 = date_back r.last [] (omega arith) in
    λ i. record { alarm = e1 i; start = e2 i; first = e3 i; end = e4 i; last = e5 i; lead = r.lead }

-- a to-do's two state bits and check-off date
module _ (a : ℕ) (s : Date) (t n : ℕ) (rest : List ℕ) where
  abbrev to_do : Bool → Option Date → List ℕ
  to_do b c = fixed_bytes (Record.ToDo (record { carry_forward = b; priority = a; start = s; check_off = c })) t n ++ rest

  carry_back : (b : Bool) (c : Option Date) → bit0 (to_do b c) ≡ b
  unfolding fixed_bytes bit check_off_bit if_b
  carry_back true None = refl
  carry_back true (Some d) = refl
  carry_back false None = refl
  carry_back false (Some d) = refl

  check-back : (b : Bool) (c : Option Date) → check_off_ok c ≡ true → check_off_of (to_do b c) ≡ c
  unfolding check_off_of check_off_ok fixed_bytes date_bytes bit check_off_bit check_off_bytes if_b
  check-back true None h = refl
  check-back true (Some d) h = ap Some (date_back d [] (omega (arith, valid_facts h)))
  check-back false None h = refl
  check-back false (Some d) h = ap Some (date_back d [] (omega (arith, valid_facts h)))

  clean_back : (b : Bool) (c : Option Date) → check_off_clean (to_do b c) ≡ true
  unfolding check_off_clean three_zeros fixed_bytes date_bytes bit check_off_bit check_off_bytes if_b if_eq
  clean_back true None = refl
  clean_back true (Some d) = refl
  clean_back false None = refl
  clean_back false (Some d) = refl

pub clean_encoded : (d : ToDo) (t n : ℕ) (rest : List ℕ) → check_off_clean (fixed_bytes (Record.ToDo d) t n ++ rest) ≡ true
clean_encoded d t n rest = clean_back d.priority d.start t n rest d.carry_forward d.check_off

pub clean_typed : (r : Record) (t n : ℕ) (rest : List ℕ) → type_of r ≡ 6 → check_off_clean (fixed_bytes r t n ++ rest) ≡ true
unfolding type_of
clean_typed (Record.Dated d) t n rest e = absurd (omega arith)
clean_typed (Record.Weekly w) t n rest e = absurd (omega arith)
clean_typed (Record.MonthlyByDate m) t n rest e = absurd (omega arith)
clean_typed (Record.MonthlyByPosition m) t n rest e = absurd (omega arith)
clean_typed (Record.Yearly y) t n rest e = absurd (omega arith)
clean_typed (Record.ToDo d) t n rest e = clean_encoded d t n rest

to_do_back_lem : (d : ToDo) → ToDoFacts d → (t n : ℕ) (rest : List ℕ) → to_do_of (fixed_bytes (Record.ToDo d) t n ++ rest) ≡ d
unfolding to_do_of fixed_bytes date_bytes
to_do_back_lem d f t n rest =
    let e1 = carry_back d.priority d.start t n rest d.carry_forward d.check_off in
    let e2 = date_back d.start [] (omega arith) in
    let e3 = check-back d.priority d.start t n rest d.carry_forward d.check_off f.check in
    λ i. record { carry_forward = e1 i; priority = d.priority; start = e2 i; check_off = e3 i }

-- The record is read back.
pub decode_record : (r : Record) → record_ok r ≡ true → (t n : ℕ) (rest : List ℕ) → record_of (type_of r) (fixed_bytes r t n ++ rest) ≡ r
unfolding record_of type_of if_eq fixed_bytes weekly_of monthly_by_date_of monthly_by_position_of yearly_of repeat_of
decode_record (Record.Dated d) h t n rest = ap Record.Dated (dated_back d (record_facts (Record.Dated d) h) t n rest)
decode_record (Record.Weekly w) h t n rest =
    let e = repeat_back w.repeat (record_facts (Record.Weekly w) h).1 w.weekday t n rest in
    λ i. Record.Weekly (record { weekday = w.weekday; repeat = e i })
decode_record (Record.MonthlyByDate m) h t n rest =
    let e = repeat_back m.repeat (record_facts (Record.MonthlyByDate m) h).1 m.day t n rest in
    λ i. Record.MonthlyByDate (record { day = m.day; repeat = e i })
decode_record (Record.MonthlyByPosition m) h t n rest =
    let e = repeat_back m.repeat (record_facts (Record.MonthlyByPosition m) h).2 m.weekday t n rest in
    λ i. Record.MonthlyByPosition (record { week = m.week; weekday = m.weekday; repeat = e i })
decode_record (Record.Yearly y) h t n rest =
    let e = repeat_back y.repeat (record_facts (Record.Yearly y) h).2 y.day t n rest in
    λ i. Record.Yearly (record { month = y.month; day = y.day; repeat = e i })
decode_record (Record.ToDo d) h t n rest = ap Record.ToDo (to_do_back_lem d (record_facts (Record.ToDo d) h) t n rest)
