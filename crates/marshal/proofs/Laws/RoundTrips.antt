-- What goes out comes in the same: settings, records of every kind, facts and writing states. A refusal that is handed on is refused.
-- Assumes nothing.
use Rattle.std.specs.Prelude.{Ok, Err, Option, Some, None, ℕ, ◌≤◌, ◌<◌, ◌≡◌, refl, false}
use Rattle.std.proofs.Common.{◌∙◌, arith}
use Rattle.std.proofs.Math.Path.{ap}
use Rattle.prelude.specs.Choice.{if_lt, if_eq, if_b}
use Rattle.prelude.proofs.Laws.Choice.{is_ne}
use Rattle.prelude.specs.declared.refusals.Refusal.{Refusal}
use Rattle.days.specs.declared.types.DayFacts.{DayFacts}
use Rattle.records.specs.Ranges.{between, to_do_ok, record_ok}
use Rattle.records.specs.declared.types.Record.{Record}
use Rattle.records.specs.declared.types.ToDo.{ToDo}
use Rattle.book.specs.Settings.{settings_in_range}
use Rattle.book.specs.declared.types.Book.{Book}
use Rattle.book.specs.declared.types.Entry.{Entry}
use Rattle.writer.specs.declared.types.Writer.{Writer}
use Rattle.marshal.specs.BookAnswers.{book_out, settings_in}
use Rattle.marshal.specs.DayAnswers.{facts_out, facts_in}
use Rattle.marshal.specs.RecordAnswers.{record_with, dated_out, repeat_out, to_do_out, checked_out, kind_out, refused_out, record_out}
use Rattle.marshal.specs.RecordArguments.{check_off_in, to_do_in, record_in}
use Rattle.marshal.specs.WriterStates.{writer_out, writer_in}
use Rattle.marshal.specs.declared.record_answers.RecordOut.{RecordOut}
use Rattle.days.specs.declared.types.Date.{Date}

pub settings_back : (b : Book) → settings_in (book_out (Ok b)) ≡ b.settings
unfolding book_out
settings_back b = refl

pub facts_back : (f : DayFacts) → facts_in (facts_out (Ok f)) ≡ f
unfolding facts_out
facts_back f = refl

pub state_back : (w : Writer) → writer_in (writer_out (Ok w)) ≡ w
unfolding writer_out
state_back w = refl

-- "hand the state back as it came"
pub refused_state_back : (e : Refusal) (w : Writer) → writer_in (writer_out (Err (record { refusal = e; writer = w }))) ≡ w
unfolding writer_out
refused_state_back e w = refl

abbrev with_check_off : ToDo → Option Date → ToDo
with_check_off t c = record { carry_forward = t.carry_forward; priority = t.priority; start = t.start; check_off = c }

to_do_back : (e : Entry) (t : ToDo) (c : Option Date) → c ≡ t.check_off → record_in (checked_out e t c) ≡ Record.ToDo t
unfolding checked_out to_do_out record_with record_in check_off_in if_eq if_b
to_do_back e t None h = ap (λ c. Record.ToDo (with_check_off t c)) h
to_do_back e t (Some d) h = ap (λ c. Record.ToDo (with_check_off t c)) h

kind_back : (e : Entry) (r : Record) → record_in (kind_out e r) ≡ r
unfolding kind_out dated_out repeat_out record_with record_in if_eq
kind_back e (Record.Dated d) = refl
kind_back e (Record.Weekly w) = refl
kind_back e (Record.MonthlyByDate m) = refl
kind_back e (Record.MonthlyByPosition m) = refl
kind_back e (Record.Yearly y) = refl
kind_back e (Record.ToDo t) = to_do_back e t t.check_off refl

pub record_back : (e : Entry) → record_in (record_out (Ok e)) ≡ e.«record»
unfolding record_out
record_back e = kind_back e e.«record»

-- a refused book has no settings that could be opened with
pub refused-settings : (e : Refusal) → settings_in_range (settings_in (book_out (Err e))) ≡ false
unfolding book_out settings_in_range if_lt
refused-settings e = refl

-- "7  kind is not 1 to 6"
module _ (r : RecordOut) (h : 1 ≤ r.kind → 6 < r.kind) where
  passed : (n : ℕ) → (1 ≤ n) × (n ≤ 6) → (x y : Record) → if_eq r.kind n x y ≡ y
  passed n s x y = is_ne (λ e. omega (arith, h (omega arith))) x y

  no_kind : record_in r ≡ Record.ToDo (to_do_in r 0)
  unfolding record_in
  no_kind =
      passed 1 (omega arith) _ _ ∙ passed 2 (omega arith) _ _ ∙ passed 3 (omega arith) _ _ ∙ passed 4 (omega arith) _ _ ∙ passed 5 (omega arith) _ _
      ∙ passed 6 (omega arith) _ _

  pub other-kind : record_ok (record_in r) ≡ false
  unfolding record_ok to_do_ok between if_lt if_b
  other-kind = ap record_ok no_kind

-- as a refused record, which has kind 0
pub refused_record : (e : Refusal) → record_ok (record_in (record_out (Err e))) ≡ false
unfolding record_out refused_out
refused_record e = other-kind (record_out (Err e)) (λ l. omega arith)
