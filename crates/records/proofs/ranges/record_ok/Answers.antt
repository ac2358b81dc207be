-- `record_ok` meets its contract: each arm is a clause of its definition.
use Rattle.records.proofs.Laws.Kinds.{kinds}
use Rattle.records.proofs.ranges.record_ok.Goals as goal

pub returns-in-Dated : goal.returns-in-Dated
returns-in-Dated c = search kinds

pub returns-in-Weekly : goal.returns-in-Weekly
returns-in-Weekly c = search kinds

pub returns-in-MonthlyByDate : goal.returns-in-MonthlyByDate
returns-in-MonthlyByDate c = search kinds

pub returns-in-MonthlyByPosition : goal.returns-in-MonthlyByPosition
returns-in-MonthlyByPosition c = search kinds

pub returns-in-Yearly : goal.returns-in-Yearly
returns-in-Yearly c = search kinds

pub returns-in-ToDo : goal.returns-in-ToDo
returns-in-ToDo c = search kinds
