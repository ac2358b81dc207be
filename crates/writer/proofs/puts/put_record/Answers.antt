-- `put_record` meets its contract: each kind by its head, whose bytes are the kind's encoding.
use Rattle.std.proofs.Common.{ap, arith, sym, true, ◌∙◌, ◌≡◌, ◌<◌}
use Rattle.records.specs.Ranges.{record_ok}
use Rattle.records.proofs.Laws.Ranges.{Facts, record_facts}
use Rattle.records.specs.declared.types.Record.{Record}
use Rattle.writer.proofs.Laws.Heads.{dated_fit, repeat_fit, to_do_fit, day_fit, weekly_head, by_date_head, by_position_head, yearly_head, head_room, head_put}
use Rattle.writer.proofs.puts.put_record.Goals as goal

-- the facts of a kind, from the judge of the record
of : {r k : Record} → r ≡ k → record_ok r ≡ true → Facts k
of {r} {k} e h = record_facts k (ap record_ok (sym e) ∙ h)

pub dated_head-requires : goal.dated_head-requires
dated_head-requires c = dated_fit (of c.in-Dated.is c.requires.r_value)

pub put_with_texts-requires : goal.put_with_texts-requires
put_with_texts-requires c = head_room _ _ _ _ _ _ c.in-Dated.is c.dated_head.ensures c.requires.inside

pub returns-in-Dated : goal.returns-in-Dated
returns-in-Dated c = head_put _ _ _ _ _ _ _ _ c.in-Dated.is c.dated_head.ensures c.put_with_texts.ensures

pub to_do_head-requires : goal.to_do_head-requires
to_do_head-requires c = to_do_fit (of c.in-ToDo.is c.requires.r_value)

pub put_with_texts-requires-in-ToDo : goal.put_with_texts-requires-in-ToDo
put_with_texts-requires-in-ToDo c = head_room _ _ _ _ _ _ c.in-ToDo.is c.to_do_head.ensures c.requires.inside

pub returns-in-ToDo : goal.returns-in-ToDo
returns-in-ToDo c = head_put _ _ _ _ _ _ _ _ c.in-ToDo.is c.to_do_head.ensures c.put_with_texts-in-ToDo.ensures

pub overflow_cast-w : goal.overflow_cast-w
overflow_cast-w c = omega (arith, (of c.in-Weekly.is c.requires.r_value).0)

pub short_head-requires : goal.short_head-requires
short_head-requires c = repeat_fit (of c.in-Weekly.is c.requires.r_value).1

pub put_with_texts-requires-in-Weekly : goal.put_with_texts-requires-in-Weekly
put_with_texts-requires-in-Weekly c = head_room _ _ _ _ _ _ c.in-Weekly.is (c.short_head.ensures ∙ weekly_head _ _ _) c.requires.inside

pub returns-in-Weekly : goal.returns-in-Weekly
returns-in-Weekly c = head_put _ _ _ _ _ _ _ _ c.in-Weekly.is (c.short_head.ensures ∙ weekly_head _ _ _) c.put_with_texts-in-Weekly.ensures

pub overflow_cast-m : goal.overflow_cast-m
overflow_cast-m c = omega (arith, (of c.in-MonthlyByDate.is c.requires.r_value).0)

pub short_head-requires-in-MonthlyByDate : goal.short_head-requires-in-MonthlyByDate
short_head-requires-in-MonthlyByDate c = repeat_fit (of c.in-MonthlyByDate.is c.requires.r_value).1

pub put_with_texts-requires-in-MonthlyByDate : goal.put_with_texts-requires-in-MonthlyByDate
put_with_texts-requires-in-MonthlyByDate c = head_room _ _ _ _ _ _ c.in-MonthlyByDate.is (c.short_head-in-MonthlyByDate.ensures ∙ by_date_head _ _ _) c.requires.inside

pub returns-in-MonthlyByDate : goal.returns-in-MonthlyByDate
returns-in-MonthlyByDate c = head_put _ _ _ _ _ _ _ _ c.in-MonthlyByDate.is (c.short_head-in-MonthlyByDate.ensures ∙ by_date_head _ _ _) c.put_with_texts-in-MonthlyByDate.ensures

pub overflow_cast-m-in-MonthlyByPosition : goal.overflow_cast-m-in-MonthlyByPosition
overflow_cast-m-in-MonthlyByPosition c = omega (arith, (of c.in-MonthlyByPosition.is c.requires.r_value).0)

pub overflow_cast-m-in-MonthlyByPosition-2 : goal.overflow_cast-m-in-MonthlyByPosition-2
overflow_cast-m-in-MonthlyByPosition-2 c = omega (arith, (of c.in-MonthlyByPosition.is c.requires.r_value).1)

pub long_head-requires : goal.long_head-requires
long_head-requires c = repeat_fit (of c.in-MonthlyByPosition.is c.requires.r_value).2

pub put_with_texts-requires-in-MonthlyByPosition : goal.put_with_texts-requires-in-MonthlyByPosition
put_with_texts-requires-in-MonthlyByPosition c = head_room _ _ _ _ _ _ c.in-MonthlyByPosition.is (c.long_head.ensures ∙ by_position_head _ _ _) c.requires.inside

pub returns-in-MonthlyByPosition : goal.returns-in-MonthlyByPosition
returns-in-MonthlyByPosition c = head_put _ _ _ _ _ _ _ _ c.in-MonthlyByPosition.is (c.long_head.ensures ∙ by_position_head _ _ _) c.put_with_texts-in-MonthlyByPosition.ensures

pub overflow_cast-y : goal.overflow_cast-y
overflow_cast-y c = omega (arith, (of c.in-Yearly.is c.requires.r_value).0)

pub overflow_cast-y-in-Yearly : goal.overflow_cast-y-in-Yearly
overflow_cast-y-in-Yearly c =
    let f = of c.in-Yearly.is c.requires.r_value in
    let day : c.in-Yearly.y.day < 256 = day_fit _ _ f.0 f.1 in
    omega arith

pub long_head-requires-in-Yearly : goal.long_head-requires-in-Yearly
long_head-requires-in-Yearly c = repeat_fit (of c.in-Yearly.is c.requires.r_value).2

pub put_with_texts-requires-in-Yearly : goal.put_with_texts-requires-in-Yearly
put_with_texts-requires-in-Yearly c = head_room _ _ _ _ _ _ c.in-Yearly.is (c.long_head-in-Yearly.ensures ∙ yearly_head _ _ _) c.requires.inside

pub returns-in-Yearly : goal.returns-in-Yearly
returns-in-Yearly c = head_put _ _ _ _ _ _ _ _ c.in-Yearly.is (c.long_head-in-Yearly.ensures ∙ yearly_head _ _ _) c.put_with_texts-in-Yearly.ensures
