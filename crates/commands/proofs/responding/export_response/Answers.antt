-- `export_response` meets its contract: numbers past any span, the export's file as it stands, or its refusal's text in the untouched buffer.
use Rattle.std.proofs.Common.{◌<◌, arith, length, sym, ◌∙◌}
use Rattle.std.proofs.lemmas.Result.{OkIff-at_ok, OkIff-at_err}
use Rattle.export.proofs.Laws.Answers.{first_beyond, count_beyond}
use Rattle.commands.proofs.Laws.Responses.{export_beyond, export-written, export-refused}
use Rattle.commands.proofs.responding.export_response.Goals as goal

pub returns-in_default : goal.returns-in_default
returns-in_default c =
    let none : (c.args.first < 65536) → ⊥ = OkIff-at_err _ _ _ _ c.try_from.ensures c.in_default.is in
    let e = export_beyond c.args.file.now c.args.c (length c.args.out.now) c.args.first c.args.count (first_beyond _ _ (omega arith)) in
    record { next = rw e c.other_response.ensures.next; put = rw e c.other_response.ensures.put; within = c.other_response.ensures.within }

pub returns-in_default-try_from : goal.returns-in_default-try_from
returns-in_default-try_from c =
    let none : (c.args.count < 65536) → ⊥ = OkIff-at_err _ _ _ _ c.try_from-2.ensures c.in_default-try_from.is in
    let e = export_beyond c.args.file.now c.args.c (length c.args.out.now) c.args.first c.args.count (count_beyond _ _ (omega arith)) in
    record { next = rw e c.other_response-in_default-try_from.ensures.next; put = rw e c.other_response-in_default-try_from.ensures.put; within = c.other_response-in_default-try_from.ensures.within }

pub returns-in-Ok-export : goal.returns-in-Ok-export
returns-in-Ok-export c =
    let day = OkIff-at_ok _ _ _ _ c.try_from.ensures c.in-Ok.is in
    let days = OkIff-at_ok _ _ _ _ c.try_from-2.ensures c.in-Ok-try_from.is in
    let k = export-written _ _ _ _ _ (sym (rw (day.1, days.1) at c.export.ensures.value) ∙ c.in-Ok-export.is) in
    record { next = k.next; put = (rw (day.1, days.1) at c.export.ensures.out_after) ∙ k.put; within = k.within }

pub returns-in-Err : goal.returns-in-Err
returns-in-Err c =
    let day = OkIff-at_ok _ _ _ _ c.try_from.ensures c.in-Ok.is in
    let days = OkIff-at_ok _ _ _ _ c.try_from-2.ensures c.in-Ok-try_from.is in
    let k = export-refused _ _ _ _ _ (sym (rw (day.1, days.1) at c.export.ensures.value) ∙ c.in-Err.is) in
    let e = (rw (day.1, days.1) at c.export.ensures.out_after) ∙ k.1 in
    record { next = rw k.0 c.put_refusal.ensures.next; put = rw k.0 (rw e at c.put_refusal.ensures.put); within = rw e at c.put_refusal.ensures.within }
