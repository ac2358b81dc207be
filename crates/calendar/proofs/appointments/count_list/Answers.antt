-- `count_list` meets its contract: a cursor walks the list, and stands at appointment n after n steps.
use Rattle.std.proofs.Common.{add-one, arith, sym}
use Rattle.calendar.specs.Lists.{list_walk_from, places_in_list}
use Rattle.calendar.proofs.Laws.Appointments.{ListAhead, cursor-ahead, cursor_done}
use Rattle.calendar.proofs.appointments.count_list.Goals as goal

pub loop-at-smaller : goal.loop-at-smaller
loop-at-smaller c = let a = (let ahead : ListAhead c.args.file.now c.args.span.end (places_in_list (list_walk_from c.args.file.now c.args.span.end 0 c.args.span.from)) c.loop-at.n c.loop-at.at = cursor-ahead c.loop-at.invariant.0 (omega arith) in ahead) in omega arith

pub loop-at-preserved : goal.loop-at-preserved
loop-at-preserved c =
    let a = (let ahead : ListAhead c.args.file.now c.args.span.end (places_in_list (list_walk_from c.args.file.now c.args.span.end 0 c.args.span.from)) c.loop-at.n c.loop-at.at = cursor-ahead c.loop-at.invariant.0 (omega arith) in ahead) in
    (rw (add-one c.loop-at.n, c.size_at-at.ensures.0) a.next, omega arith)

pub returns : goal.returns
returns c = sym (cursor_done c.loop-at.invariant.0 (omega arith))
