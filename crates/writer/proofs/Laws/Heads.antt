-- Laws of a record's head: it is the encoding's, kind by kind, and what fits into bytes follows from the ranges.
-- Assumes nothing.
use Rattle.std.specs.Prelude.{Option, Some, None, ℕ, ◌+◌, ◌-◌, ◌<◌, ◌≤◌, ◌≡◌, refl, Bool, true, false, List, ◌∷◌, ◌++◌, length, get_or}
use Rattle.std.proofs.Common.{◌∙◌, ap, arith}
use Rattle.std.specs.Int.{from_bool}
use Rattle.prelude.specs.Bytes.{bit, le16}
use Rattle.prelude.specs.Choice.{if_b, if_eq}
use Rattle.days.specs.Dates.{month_length}
use Rattle.days.proofs.Laws.Dates.{valid_facts, Month, length_bounds}
use Rattle.days.specs.declared.types.Date.{Date}
use Rattle.records.specs.Fields.{fixed_of}
use Rattle.records.specs.Encoding.{date_bytes, check_off_bit, check_off_bytes, fixed_bytes, type_of, body_bytes, encode}
use Rattle.records.specs.Ranges.{check_off_ok}
use Rattle.records.proofs.Laws.Ranges.{three_bytes, Within, DatedFacts, RepeatFacts, ToDoFacts}
use Rattle.records.proofs.Laws.Bodies.{length_body}
use Rattle.records.specs.declared.types.Record.{Record}
use Rattle.records.specs.declared.types.Repeat.{Repeat}
use Rattle.records.specs.declared.types.Dated.{Dated}
use Rattle.records.specs.declared.types.Weekly.{Weekly}
use Rattle.records.specs.declared.types.MonthlyByDate.{MonthlyByDate}
use Rattle.records.specs.declared.types.MonthlyByPosition.{MonthlyByPosition}
use Rattle.records.specs.declared.types.Yearly.{Yearly}
use Rattle.records.specs.declared.types.ToDo.{ToDo}
use Rattle.writer.specs.Heads.{record_head, short_head, long_head, DatedFit, RepeatFit, CheckFit, ToDoFit, to_do_head, Put}

-- a mark as a byte
pub flag_byte : (b : Bool) → from_bool b ≡ bit b
unfolding bit if_b
flag_byte true = refl
flag_byte false = refl

-- a check-off's bytes are three
pub checked_bytes : (c : Option Date) (rest : List ℕ) → get_or (check_off_bytes c) 0 0 ∷ (get_or (check_off_bytes c) 1 0 ∷ (get_or (check_off_bytes c) 2 0 ∷ rest)) ≡ check_off_bytes c ++ rest
unfolding check_off_bytes date_bytes
checked_bytes None rest = refl
checked_bytes (Some d) rest = refl

pub encode_head : (r : Record) (text note : List ℕ) → encode r text note ≡ record_head r (length text) (length note) ++ (text ++ note)
unfolding encode record_head body_bytes le16
encode_head r text note =
    let l : length (fixed_bytes r (length text) (length note) ++ (text ++ note)) ≡ fixed_of (type_of r) + length text + length note = unfold body_bytes in length_body r text note in
    rw l

pub dated_fit : {d : Dated} → DatedFacts d → DatedFit d
dated_fit f = record { date = three_bytes f.date; lead = omega (arith, f.times.leads) }

pub repeat_fit : {r : Repeat} → RepeatFacts r → RepeatFit r
repeat_fit f =
    record { first = three_bytes f.first; last = three_bytes f.last; lead = omega (arith, f.times.leads) }

check_fit : (c : Option Date) → check_off_ok c ≡ true → CheckFit c
unfolding check_off_ok
check_fit None h = tt
check_fit (Some d) h = three_bytes (valid_facts h)

pub to_do_fit : {t : ToDo} → ToDoFacts t → ToDoFit t
to_do_fit {t} f =
    record { start = three_bytes f.start; priority = omega (arith, f.priority.most); check = check_fit t.check_off f.check }

-- a yearly day fits into a byte
pub day_fit : (m d : ℕ) → Within 1 m 12 → Within 1 d (month_length 2000 m) → d < 256
day_fit m d w x = let b : Month m (month_length 2000 m) = length_bounds 2000 m w.least w.most in omega (arith, x.most)

pub to_do_head_not_checked : (d : ToDo) (t n : ℕ) → d.check_off ≡ None → to_do_head d 0 0 0 0 t n ≡ record_head (Record.ToDo d) t n
unfolding record_head type_of fixed_of if_eq fixed_bytes check_off_bit check_off_bytes
to_do_head_not_checked d t n e = rw e

pub to_do_head_checked : (d : ToDo) (on : Date) (t n : ℕ) → d.check_off ≡ Some on → to_do_head d 2 (on.year - 1900) on.month on.day t n ≡ record_head (Record.ToDo d) t n
unfolding record_head type_of fixed_of if_eq fixed_bytes check_off_bit check_off_bytes date_bytes
to_do_head_checked d on t n e = rw e

-- the heads of types 2 to 5 are theirs
pub weekly_head : (w : Weekly) (t n : ℕ) → short_head 2 w.weekday w.repeat t n ≡ record_head (Record.Weekly w) t n
unfolding record_head type_of fixed_of if_eq fixed_bytes
weekly_head w t n = refl

pub by_date_head : (m : MonthlyByDate) (t n : ℕ) → short_head 3 m.day m.repeat t n ≡ record_head (Record.MonthlyByDate m) t n
unfolding record_head type_of fixed_of if_eq fixed_bytes
by_date_head m t n = refl

pub by_position_head : (m : MonthlyByPosition) (t n : ℕ) → long_head 4 m.week m.weekday m.repeat t n ≡ record_head (Record.MonthlyByPosition m) t n
unfolding record_head type_of fixed_of if_eq fixed_bytes
by_position_head m t n = refl

pub yearly_head : (y : Yearly) (t n : ℕ) → long_head 5 y.month y.day y.repeat t n ≡ record_head (Record.Yearly y) t n
unfolding record_head type_of fixed_of if_eq fixed_bytes
yearly_head y t n = refl

-- a record's bytes by its head, in the forms that a caller and a callee have them
pub head_room : (r : Record) {k : Record} (h text note : List ℕ) (at size : ℕ) → r ≡ k → h ≡ record_head k (length text) (length note) → at + length (encode r text note) ≤ size → at + length (h ++ (text ++ note)) ≤ size
head_room r {k} h text note at size e q l =
    rw (q) (rw (ap (λ (x : Record). encode x text note) e ∙ encode_head k text note) at l)

pub head_put : (r : Record) {k : Record} (h text note : List ℕ) (at : ℕ) (b : List ℕ) (z : ℕ) (a : List ℕ) → r ≡ k → h ≡ record_head k (length text) (length note) → Put at (h ++ (text ++ note)) b z a → Put at (encode r text note) b z a
head_put r {k} h text note at b z a e q p =
    rw (ap (λ (x : Record). encode x text note) e ∙ encode_head k text note) (rw q at p)
