-- `page_response` meets its contract: a number past the last day, or what the printed page says.
use Rattle.std.proofs.Common.{◌<◌, arith, length, sym, ◌∙◌}
use Rattle.std.proofs.lemmas.Result.{OkIff-at_ok, OkIff-at_err}
use Rattle.days.specs.Days.{last_day}
use Rattle.commands.proofs.Laws.Responses.{page_beyond, print_count, print_refused}
use Rattle.commands.proofs.responding.page_response.Goals as goal

pub returns-in_default : goal.returns-in_default
returns-in_default c =
    let none : (c.args.d < 65536) → ⊥ = OkIff-at_err _ _ _ _ c.try_from.ensures c.in_default.is in
    let beyond : last_day < c.args.d = omega arith in
    let e = page_beyond c.args.file.now c.args.c (length c.args.out.now) c.args.d beyond in
    record { next = rw e c.other_response.ensures.next; put = rw e c.other_response.ensures.put; within = c.other_response.ensures.within }

pub returns-in-Ok-print_page : goal.returns-in-Ok-print_page
returns-in-Ok-print_page c =
    let day = OkIff-at_ok _ _ _ _ c.try_from.ensures c.in-Ok.is in
    let k = print_count _ _ _ _ (sym (rw day.1 at c.print_page.ensures.gives) ∙ c.in-Ok-print_page.is) in
    record { next = k.next; put = (rw day.1 at c.print_page.ensures.leaves) ∙ k.put; within = k.within }

pub returns-in-Err : goal.returns-in-Err
returns-in-Err c =
    let day = OkIff-at_ok _ _ _ _ c.try_from.ensures c.in-Ok.is in
    let k = print_refused _ _ _ _ (sym (rw day.1 at c.print_page.ensures.gives) ∙ c.in-Err.is) in
    let e = (rw day.1 at c.print_page.ensures.leaves) ∙ k.left in
    record { next = rw k.text c.put_refusal.ensures.next; put = rw k.text (rw e at c.put_refusal.ensures.put); within = rw e at c.put_refusal.ensures.within }
