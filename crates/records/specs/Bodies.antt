-- The judgement of a record's body, document 01 "The numbers given on refusal": 6, 7, 8, in this order.
-- Assumes nothing.
use Rattle.std.specs.Prelude.{Result, Ok, Err, ℕ, ◌+◌, Bool, true, false, List, length}
use Rattle.prelude.specs.Choice.{if_lt, if_eq, if_b}
use Rattle.prelude.specs.declared.refusals.Fault.{Fault}
use Rattle.texts.specs.Notes.{no_zero, note_ok, most_text}
use Rattle.records.specs.Fields.{dated_of, weekly_of, monthly_by_date_of, monthly_by_position_of, yearly_of, to_do_of, fixed_of, text_length, note_length, body_text, body_note}
use Rattle.records.specs.Ranges.{dated_ok, weekly_ok, monthly_by_date_ok, monthly_by_position_ok, yearly_ok, to_do_ok, check_off_clean}

-- "L below the fixed bytes, text over 27, or fixed + text + note over L"
unfoldable pub lengths_fit : ℕ → ℕ → ℕ → ℕ → Bool
lengths_fit l fixed text note = if_lt l fixed false (if_lt most_text text false (if_lt l (fixed + text + note) false true))

unfoldable pub lengths_ok : ℕ → List ℕ → Bool
lengths_ok t p = lengths_fit (length p) (fixed_of t) (text_length t p) (note_length t p)

-- each kind's fields in range
unfoldable pub fields_ok : ℕ → List ℕ → Bool
fields_ok t p =
    if_eq t 1 (dated_ok (dated_of p))
    (if_eq t 2 (weekly_ok (weekly_of p))
    (if_eq t 3 (monthly_by_date_ok (monthly_by_date_of p))
    (if_eq t 4 (monthly_by_position_ok (monthly_by_position_of p))
    (if_eq t 5 (yearly_ok (yearly_of p)) (if_b (to_do_ok (to_do_of p)) (check_off_clean p) false)))))

-- text and note by their rules
unfoldable pub texts_ok : ℕ → List ℕ → Bool
texts_ok t p = if_b (no_zero (body_text t p)) (note_ok (body_note t p)) false

-- what is refused of the body of a record of a type 1 to 6, if anything
unfoldable pub judge_body : ℕ → List ℕ → Result (Unit {0}) Fault
judge_body t p =
    if_b (lengths_ok t p)
    (if_b (fields_ok t p) (if_b (texts_ok t p) (Ok tt) (Err Fault.BadText)) (Err Fault.BadField))
    (Err Fault.BadLength)
