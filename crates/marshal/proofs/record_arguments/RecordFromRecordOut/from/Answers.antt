-- A record handed over: each arm is the choice that its kind makes.
use Rattle.std.proofs.Common.{ap}
use Rattle.prelude.proofs.Laws.Choice.{picks}
use Rattle.records.specs.declared.types.Repeat.{Repeat}
use Rattle.records.specs.declared.types.Record.{Record}
use Rattle.marshal.specs.RecordArguments.{record_in}
use Rattle.marshal.proofs.record_arguments.RecordFromRecordOut.from.Goals as goal

pub returns-in-1 : goal.returns-in-1
unfolding record_in
returns-in-1 c = search picks depth 25 fits 3000

pub returns-in-2 : goal.returns-in-2
unfolding record_in
returns-in-2 c = search (picks, ap (λ (q : Repeat). Record.Weekly (record { weekday = c.args.r.weekday; repeat = q })) c.repeat.ensures) depth 25 fits 3000

pub returns-in-3 : goal.returns-in-3
unfolding record_in
returns-in-3 c = search (picks, ap (λ (q : Repeat). Record.MonthlyByDate (record { day = c.args.r.day; repeat = q })) c.repeat-in-3.ensures) depth 25 fits 3000

pub returns-in-4 : goal.returns-in-4
unfolding record_in
returns-in-4 c = search (picks, ap (λ (q : Repeat). Record.MonthlyByPosition (record { week = c.args.r.week; weekday = c.args.r.weekday; repeat = q })) c.repeat-in-4.ensures) depth 25 fits 3000

pub returns-in-5 : goal.returns-in-5
unfolding record_in
returns-in-5 c = search (picks, ap (λ (q : Repeat). Record.Yearly (record { month = c.args.r.month; day = c.args.r.day; repeat = q })) c.repeat-in-5.ensures) depth 25 fits 3000

pub returns-in-6 : goal.returns-in-6
unfolding record_in
returns-in-6 c = search picks depth 25 fits 3000

pub returns-in_default : goal.returns-in_default
unfolding record_in
returns-in_default c = search picks depth 25 fits 3000
