-- From record to record, document 01 "The book" and "Order": lengths rule, and nothing is guessed.
-- Assumes nothing.
use Rattle.std.specs.Prelude.{Result, Ok, Err, Option, Some, None, ℕ, zero, suc, ◌+◌, ◌-◌, List, [], ◌∷◌, length}
use Rattle.prelude.specs.Choice.{if_lt, if_eq}
use Rattle.prelude.specs.Bytes.{byte, word, part}
use Rattle.prelude.specs.Refusals.{cut_short, refusal_at, number_of}
use Rattle.prelude.specs.declared.refusals.Fault.{Fault}
use Rattle.prelude.specs.declared.refusals.Refusal.{Refusal}
use Rattle.records.specs.Bodies.{judge_body}
use Rattle.book.specs.Settings.{first_record}

-- "Records: type byte, length L in two bytes, then L bytes."
abbrev pub type_at : List ℕ → ℕ → ℕ
type_at f at = byte f at

abbrev pub body_length_at : List ℕ → ℕ → ℕ
body_length_at f at = word f (at + 1)

-- "The body of a record is judged as that stretch of the file and nothing beyond it."
abbrev pub body_at : List ℕ → ℕ → List ℕ
body_at f at = part f (at + 3) (body_length_at f at)

abbrev pub next_place : List ℕ → ℕ → ℕ
next_place f at = at + 3 + body_length_at f at

-- "three head bytes (4), 5, body (4)": what is refused of a head of type t and length l at a place, if anything
unfoldable pub judge_head : ℕ → ℕ → ℕ → ℕ → Result (Unit {0}) Fault
judge_head size at t l =
    if_lt size (at + 3) (Err Fault.CutShort)
    (if_eq t 50 (if_eq l 0 (Ok tt) (Err Fault.UnknownType))
    (if_lt t 1 (Err Fault.UnknownType)
    (if_lt 6 t (Err Fault.UnknownType) (if_lt size (at + 3 + l) (Err Fault.CutShort) (Ok tt)))))

-- a head's judgement at a place: the step x, or the book stops there
abbrev pub head_step : Result (Unit {0}) Fault → ℕ → Result (Option ℕ) Refusal → Result (Option ℕ) Refusal
head_step (Ok u) at x = x
head_step (Err e) at x = Err (refusal_at (number_of e) at)

-- a body's judgement at a place: the book goes on, or stops there
unfoldable pub body_step : Result (Unit {0}) Fault → ℕ → ℕ → Result (Option ℕ) Refusal
body_step (Ok u) at next = Ok (Some next)
body_step (Err e) at next = Err (refusal_at (number_of e) at)

-- "Type 50 with L = 0 ends the book"; any other record goes on where its L bytes end
unfoldable pub step_at : List ℕ → ℕ → Result (Option ℕ) Refusal
step_at f at =
    head_step (judge_head (length f) at (type_at f at) (body_length_at f at)) at
    (if_eq (type_at f at) 50 (Ok None) (body_step (judge_body (type_at f at) (body_at f at)) at (next_place f at)))

-- what is met from a place on: records, and then the end record or a refusal
pub data Walk : Type 0 where
  more : ℕ → Walk → Walk
  ended : ℕ → Walk
  stopped : Refusal → Walk

abbrev pub on_step : ℕ → Result (Option ℕ) Refusal → (ℕ → Walk) → Walk
on_step at (Ok (Some next)) w = more at (w next)
on_step at (Ok None) w = ended (at + 3)
on_step at (Err e) w = stopped e

-- at most so many records on; the walk below never runs out
unfoldable pub walk_f : ℕ → List ℕ → ℕ → Walk
walk_f zero f at = stopped (refusal_at cut_short at)
walk_f (suc k) f at = on_step at (step_at f at) (λ next. walk_f k f next)

-- the walk from the place where n records lie behind; each has three bytes, so a book of that size holds no more records than bytes
unfoldable pub walk_from : List ℕ → ℕ → ℕ → Walk
walk_from f n at = walk_f (length f - n) f at

-- the walk over the whole book: the first record stands at byte 12
unfoldable pub walk_of : List ℕ → Walk
walk_of f = walk_from f 0 first_record

-- the places of the records met
unfoldable pub places_in : Walk → List ℕ
places_in (more at w) = at ∷ places_in w
places_in (ended e) = []
places_in (stopped e) = []
