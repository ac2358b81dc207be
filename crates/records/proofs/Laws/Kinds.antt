-- A record's judge, kind by kind, as the arms of a match give it.
-- Assumes nothing.
use Rattle.std.specs.Prelude.{◌≡◌, Bool}
use Rattle.std.proofs.Math.Path.{sym}
use Rattle.std.proofs.Common.{◌∙◌, ap}
use Rattle.records.specs.Ranges.{dated_ok, weekly_ok, monthly_by_date_ok, monthly_by_position_ok, yearly_ok, to_do_ok, record_ok}
use Rattle.records.specs.declared.types.Dated.{Dated}
use Rattle.records.specs.declared.types.Weekly.{Weekly}
use Rattle.records.specs.declared.types.MonthlyByDate.{MonthlyByDate}
use Rattle.records.specs.declared.types.MonthlyByPosition.{MonthlyByPosition}
use Rattle.records.specs.declared.types.Yearly.{Yearly}
use Rattle.records.specs.declared.types.ToDo.{ToDo}
use Rattle.records.specs.declared.types.Record.{Record}

module _ {r : Record} {z : Bool} where
  pub ok-dated : {d : Dated} → r ≡ Record.Dated d → z ≡ dated_ok d → z ≡ record_ok r
  unfolding record_ok
  ok-dated e h = h ∙ sym (ap record_ok e)

  pub ok-weekly : {w : Weekly} → r ≡ Record.Weekly w → z ≡ weekly_ok w → z ≡ record_ok r
  unfolding record_ok
  ok-weekly e h = h ∙ sym (ap record_ok e)

  pub ok-by-date : {m : MonthlyByDate} → r ≡ Record.MonthlyByDate m → z ≡ monthly_by_date_ok m → z ≡ record_ok r
  unfolding record_ok
  ok-by-date e h = h ∙ sym (ap record_ok e)

  pub ok-by-position : {m : MonthlyByPosition} → r ≡ Record.MonthlyByPosition m → z ≡ monthly_by_position_ok m → z ≡ record_ok r
  unfolding record_ok
  ok-by-position e h = h ∙ sym (ap record_ok e)

  pub ok-yearly : {y : Yearly} → r ≡ Record.Yearly y → z ≡ yearly_ok y → z ≡ record_ok r
  unfolding record_ok
  ok-yearly e h = h ∙ sym (ap record_ok e)

  pub ok-to-do : {t : ToDo} → r ≡ Record.ToDo t → z ≡ to_do_ok t → z ≡ record_ok r
  unfolding record_ok
  ok-to-do e h = h ∙ sym (ap record_ok e)

pub ruleset kinds = (ok-dated, ok-weekly, ok-by-date, ok-by-position, ok-yearly, ok-to-do)
