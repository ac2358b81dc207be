-- A day's list of appointments as it is read, document 01 "The Calendar file": one after the other, up to the list's end.
-- Assumes nothing.
use Rattle.std.specs.Prelude.{Ok, Err, ℕ, zero, suc, ◌+◌, ◌-◌, Bool, true, false, List, [], ◌∷◌}
use Rattle.prelude.specs.Choice.{if_lt, if_eq, if_b}
use Rattle.prelude.specs.Bytes.{byte, word}
use Rattle.prelude.specs.Refusals.{bad_appointment, refusal_at}
use Rattle.days.specs.Days.{last_minute}
use Rattle.prelude.specs.Verdicts.{Verdict}

-- "Appointment: size byte, flags (1 alarm, 2 special time), minute, text, zero byte."
abbrev pub size_at : List ℕ → ℕ → ℕ
size_at f at = byte f at

abbrev pub flags_at : List ℕ → ℕ → ℕ
flags_at f at = byte f (at + 1)

abbrev pub minute_at : List ℕ → ℕ → ℕ
minute_at f at = word f (at + 2)

abbrev pub next_at : List ℕ → ℕ → ℕ
next_at f at = at + size_at f at

-- the place of the first zero among the n bytes from p, the place behind them where there is none
unfoldable pub first_zero : ℕ → List ℕ → ℕ → ℕ
first_zero zero f p = p
first_zero (suc n) f p = if_eq (byte f p) 0 p (first_zero n f (p + 1))

-- whether the text of an appointment of that size ends with it: "first zero after the minute missing or not its last byte"
abbrev pub text_ends : List ℕ → ℕ → ℕ → Bool
text_ends f at size = if_eq (first_zero (size - 4) f (at + 4) + 1) (at + size) true false

-- whether an appointment stands at a place of a list that ends at e, where the one before began at minute low:
-- "size below 5 or past the block's list; flags over 3; minute over 1,439 or below the one before; first zero after the minute missing or not its last byte"
unfoldable pub appointment_ok : List ℕ → ℕ → ℕ → ℕ → Bool
appointment_ok f e low at =
    if_lt (size_at f at) 5 false
    (if_lt e (next_at f at) false
    (if_lt 3 (flags_at f at) false
    (if_lt last_minute (minute_at f at) false
    (if_lt (minute_at f at) low false
    (text_ends f at (size_at f at))))))

-- what is met from a place on: appointments, and then the list's end or a place where none stands
pub data ListWalk : Type 0 where
  more : ℕ → ListWalk → ListWalk
  ended : ListWalk
  stopped : ℕ → ListWalk

-- at most so many appointments on; the walk below never runs out
unfoldable pub list_walk_f : ℕ → List ℕ → ℕ → ℕ → ℕ → ListWalk
list_walk_f zero f e low at = ended
list_walk_f (suc k) f e low at =
    if_lt at e (if_b (appointment_ok f e low at) (more at (list_walk_f k f e (minute_at f at) (next_at f at))) (stopped at)) ended

-- the walk from a place to the list's end e, where no minute may be below low; a list holds no more appointments than bytes
unfoldable pub list_walk_from : List ℕ → ℕ → ℕ → ℕ → ListWalk
list_walk_from f e low at = list_walk_f (e - at) f e low at

-- the places of the appointments met
unfoldable pub places_in_list : ListWalk → List ℕ
places_in_list (more at w) = at ∷ places_in_list w
places_in_list ended = []
places_in_list (stopped at) = []

-- "24 .. appointment"
unfoldable pub verdict_in : ListWalk → Verdict
verdict_in (more at w) = verdict_in w
verdict_in ended = Ok tt
verdict_in (stopped at) = Err (refusal_at bad_appointment at)
