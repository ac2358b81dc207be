-- A refusal is no fine verdict, and has a number.
-- Assumes nothing.
use Rattle.std.specs.Prelude.{Ok, Err, ◌≡◌}
use Rattle.prelude.specs.Refusals.{number_of}
use Rattle.prelude.specs.declared.refusals.Fault.{Fault}
use Rattle.prelude.specs.declared.refusals.Refusal.{Refusal}
use Rattle.std.proofs.Common.{arith}
use Rattle.prelude.proofs.Laws.Results.{err_not_ok}
use Rattle.prelude.specs.Verdicts.{Verdict}

-- A refusal is no fine verdict.
pub refused_not_fine : {e : Refusal} → ◌≡◌ {A = Verdict} (Err e) (Ok tt) → ⊥
refused_not_fine = err_not_ok

-- No refusal has number 0, which says across C that there is none.
pub number_not_zero : (f : Fault) → number_of f ≡ 0 → ⊥
number_not_zero Fault.BookTooLong e = omega arith
number_not_zero Fault.NotABook e = omega arith
number_not_zero Fault.BadSettings e = omega arith
number_not_zero Fault.CutShort e = omega arith
number_not_zero Fault.UnknownType e = omega arith
number_not_zero Fault.BadLength e = omega arith
number_not_zero Fault.BadField e = omega arith
number_not_zero Fault.BadText e = omega arith
number_not_zero Fault.AfterEnd e = omega arith
number_not_zero Fault.NoSuchNumber e = omega arith
number_not_zero Fault.OutOfRange e = omega arith
number_not_zero Fault.NoRoom e = omega arith
number_not_zero Fault.TooManyBlocks e = omega arith
number_not_zero Fault.NotOpen e = omega arith
number_not_zero Fault.CalendarTooLong e = omega arith
number_not_zero Fault.NotACalendar e = omega arith
number_not_zero Fault.BadTable e = omega arith
number_not_zero Fault.BadBlock e = omega arith
number_not_zero Fault.BadAppointment e = omega arith
number_not_zero Fault.BadArrays e = omega arith
number_not_zero Fault.BadDayTable e = omega arith
number_not_zero Fault.BadChain e = omega arith
number_not_zero Fault.BadChainOrder e = omega arith
number_not_zero Fault.BadCancelled e = omega arith
number_not_zero Fault.HasCancelled e = omega arith
