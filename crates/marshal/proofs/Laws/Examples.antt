-- The names across C, by example: the case of document 01, its day, and a record of each other kind, set by hand from source 000 (records
-- `Laws.Layouts`). Round trips alone would hold with two fields exchanged both ways.
-- Assumes nothing.
use Rattle.std.specs.Prelude.{Ok, ℕ, ◌≡◌, Bool, true, false, List, [], ◌∷◌, map}
use Rattle.std.proofs.Math.Path.{refl}
use Rattle.std.proofs.Common.{ap}
use Rattle.records.proofs.Laws.Layouts.{weekly_record, monthly_by_date_record, monthly_by_position_record, yearly_record, to_do_record}
use Rattle.book.specs.Books.{book_of, record_answer}
use Rattle.book.proofs.Laws.Examples.{case, case-accepted, case_record_lem}
use Rattle.book.specs.declared.types.Entry.{Entry}
use Rattle.falls.specs.declared.types.Falling.{Falling}
use Rattle.reasons.specs.Holds.{in_order}
use Rattle.marshal.specs.BookAnswers.{book_out}
use Rattle.marshal.specs.DayAnswers.{facts_out}
use Rattle.marshal.specs.PageAnswers.{falling_out, falls_out}
use Rattle.marshal.specs.ReasonAnswers.{reason_number}
use Rattle.marshal.specs.RecordAnswers.{record_with, dated_out, repeat_out, to_do_out, checked_out, kind_out, record_out}
use Rattle.marshal.specs.declared.record_answers.RecordOut.{RecordOut}

-- display from 8:00 in steps of 30 minutes, lead time 5, alarm on, no carry forward
pub case_book_out :
    book_out (book_of case) ≡ record { number = 0; place = 0; records = 1; start = 480; granularity = 30; lead = 5; alarm = true; carry_forward = false }
unfolding book_out
case_book_out = ap book_out case-accepted

-- day 4,822 is Monday, 15 March 1993, and that month has 31 days
pub case-facts_out :
    facts_out (Ok (record { day = record { 0 = 4822 }; date = record { year = 1993; month = 3; day = 15 }; weekday = 2; length = 31 }))
    ≡ record { number = 0; place = 0; calendar_day = 4822; year = 1993; month = 3; day = 15; weekday = 2; month_length = 31 }
unfolding facts_out
case-facts_out = refl

-- number and place; where the record, its text and its note stand
abbrev places : RecordOut → List ℕ
places r = r.number ∷ r.place ∷ r.at ∷ r.text_at ∷ r.text_length ∷ r.note_at ∷ r.note_length ∷ []

abbrev values : RecordOut → List ℕ
values r = r.kind ∷ r.weekday ∷ r.week ∷ r.month ∷ r.day ∷ r.priority ∷ r.start ∷ r.end ∷ r.lead ∷ []

-- the first, the last and the check-off date, each as year, month, day
abbrev dates : RecordOut → List ℕ
dates r =
    r.first_year ∷ r.first_month ∷ r.first_day ∷ r.last_year ∷ r.last_month ∷ r.last_day ∷ r.check_off_year ∷ r.check_off_month ∷ r.check_off_day ∷ []

-- these values and dates, flag and checked_off
abbrev Shows : RecordOut → List ℕ → List ℕ → Bool → Bool → Type 0
Shows r vs ds flag checked = (values r ≡ vs) × (dates r ≡ ds) × (r.flag ≡ flag) × (r.checked_off ≡ checked)

-- 10:00 to 11:00 on 15 March 1993, lead time 5, alarm on
pub case_record_out :
    Shows (record_out (record_answer case 0)) (1 ∷ 0 ∷ 0 ∷ 0 ∷ 0 ∷ 0 ∷ 600 ∷ 660 ∷ 5 ∷ []) (1993 ∷ 3 ∷ 15 ∷ 0 ∷ 0 ∷ 0 ∷ 0 ∷ 0 ∷ 0 ∷ []) true false
unfolding record_out kind_out dated_out record_with
case_record_out = rw case_record_lem (refl, refl, refl, refl)

-- the record at byte 12, "Dep" from byte 27 on, no note
pub case-places_out : places (record_out (record_answer case 0)) ≡ 0 ∷ 0 ∷ 12 ∷ 27 ∷ 3 ∷ 30 ∷ 0 ∷ []
unfolding record_out kind_out dated_out record_with
case-places_out = rw case_record_lem

-- the header's numbers: not, on its own day, moved
pub falls_out_lem :
    (falls_out (Ok Falling.No) ≡ record { number = 0; place = 0; falls = 0 }) × (falls_out (Ok Falling.Own) ≡ record { number = 0; place = 0; falls = 1 }) × (falls_out (Ok Falling.Moved) ≡ record { number = 0; place = 0; falls = 2 })
unfolding falls_out falling_out
falls_out_lem = (refl, refl, refl)

-- the header's numbers of the reasons, in the request's order
pub reasons_out :
    map reason_number in_order ≡ 1 ∷ 2 ∷ 3 ∷ 4 ∷ 5 ∷ 6 ∷ 7 ∷ 8 ∷ 9 ∷ 10 ∷ []
unfolding reason_number
reasons_out = refl

module _ (e : Entry) where
  -- Tuesdays
  pub weekly-out :
      Shows (kind_out e weekly_record) (2 ∷ 3 ∷ 0 ∷ 0 ∷ 0 ∷ 0 ∷ 600 ∷ 660 ∷ 15 ∷ []) (1993 ∷ 3 ∷ 16 ∷ 1993 ∷ 12 ∷ 28 ∷ 0 ∷ 0 ∷ 0 ∷ []) true false
  unfolding kind_out repeat_out record_with
  weekly-out = (refl, refl, refl, refl)

  -- each 31st
  pub monthly-by-date-out :
      Shows (kind_out e monthly_by_date_record) (3 ∷ 0 ∷ 0 ∷ 0 ∷ 31 ∷ 0 ∷ 1439 ∷ 1439 ∷ 2 ∷ []) (1992 ∷ 1 ∷ 30 ∷ 2099 ∷ 12 ∷ 31 ∷ 0 ∷ 0 ∷ 0 ∷ []) false false
  unfolding kind_out repeat_out record_with
  monthly-by-date-out = (refl, refl, refl, refl)

  -- each fifth Monday: weekday 2, week 5
  pub monthly-by-position-out :
      Shows (kind_out e monthly_by_position_record) (4 ∷ 2 ∷ 5 ∷ 0 ∷ 0 ∷ 0 ∷ 480 ∷ 540 ∷ 10 ∷ []) (1993 ∷ 3 ∷ 1 ∷ 1994 ∷ 5 ∷ 31 ∷ 0 ∷ 0 ∷ 0 ∷ []) true false
  unfolding kind_out repeat_out record_with
  monthly-by-position-out = (refl, refl, refl, refl)

  -- each 29 February: month 2, day 29
  pub yearly-out :
      Shows (kind_out e yearly_record) (5 ∷ 0 ∷ 0 ∷ 2 ∷ 29 ∷ 0 ∷ 7 ∷ 8 ∷ 1 ∷ []) (1992 ∷ 1 ∷ 31 ∷ 2000 ∷ 2 ∷ 29 ∷ 0 ∷ 0 ∷ 0 ∷ []) false false
  unfolding kind_out repeat_out record_with
  yearly-out = (refl, refl, refl, refl)

  -- priority 9, carried forward, from 15 March 1993, checked off on 2 April
  pub to-do-out :
      Shows (kind_out e to_do_record) (6 ∷ 0 ∷ 0 ∷ 0 ∷ 0 ∷ 9 ∷ 0 ∷ 0 ∷ 0 ∷ []) (1993 ∷ 3 ∷ 15 ∷ 0 ∷ 0 ∷ 0 ∷ 1993 ∷ 4 ∷ 2 ∷ []) true true
  unfolding kind_out checked_out to_do_out record_with
  to-do-out = (refl, refl, refl, refl)
