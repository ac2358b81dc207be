-- `next_shown` meets its contract: no day from the start up to the present one shows, by `free-wait`; before the start none does, by `free-start`.
use Rattle.std.proofs.Common.{arith}
use Rattle.days.specs.Facts.{facts_of}
use Rattle.day_steps.specs.Codes.{day_code}
use Rattle.occurrences.proofs.Laws.Waits.{wait_least}
use Rattle.day_steps.proofs.Laws.Moves.{facts_at_day, day_of-facts, facts_at_known}
use Rattle.occurrences.proofs.Laws.Find.{start-reached, code-here, wait-here, shown-here, free-join, free-start, free-after, free-wait}
use Rattle.occurrences.proofs.Laws.Next.{next-hit, next-end}
use Rattle.occurrences.proofs.finding.next_shown.Goals as goal

pub loop-c-init : goal.loop-c-init
loop-c-init c = ((start-reached _ c.requires c.start_from-g.ensures).at, omega arith, λ d l m. absurd (omega arith))

pub day_code-p-requires : goal.day_code-p-requires
day_code-p-requires c = facts_at_known c.loop-c.invariant.0 (omega arith)

pub returns-then-r-date_in : goal.returns-then-r-date_in
returns-then-r-date_in c =
    let e = code-here c.loop-c.invariant.0 c.day_code-p.ensures in
    let s = start-reached _ c.requires c.start_from-g.ensures in
    next-end (omega arith) (free-start _ _ s (free-join _ _ c.loop-c.invariant.2 (free-after _ _ _ (omega arith))))

pub returns-then-rule_shows : goal.returns-then-rule_shows
returns-then-rule_shows c =
    let s = start-reached _ c.requires c.start_from-g.ensures in
    (c.loop-c.invariant.0.high, next-hit (omega arith) (omega arith) (free-start _ _ s c.loop-c.invariant.2) (shown-here c.loop-c.invariant.0 c.day_code-p.ensures _ _ c.rule_shows.ensures c.if-rule_shows.true))

pub returns-then-ahead-wait : goal.returns-then-ahead-wait
returns-then-ahead-wait c =
    let s = start-reached _ c.requires c.start_from-g.ensures in
    let w = wait-here c.loop-c.invariant.0 c.day_code-p.ensures _ c.wait_for-wait.ensures in
    let here = shown-here c.loop-c.invariant.0 c.day_code-p.ensures _ _ c.rule_shows.ensures c.if-rule_shows.false in
    next-end (omega arith) (free-start _ _ s (free-join _ _ c.loop-c.invariant.2 (free-wait _ _ _ here (omega arith) (omega arith))))

pub loop-c-smaller : goal.loop-c-smaller
loop-c-smaller c =
    let d = day_of-facts c.days_later-g.ensures in
    let w = wait-here c.loop-c.invariant.0 c.day_code-p.ensures _ c.wait_for-wait.ensures in
    omega (arith, wait_least c.args.r (day_code (facts_of c.loop-c.g.day.0)))

pub loop-c-preserved : goal.loop-c-preserved
loop-c-preserved c =
    let d = day_of-facts c.days_later-g.ensures in
    let w = wait-here c.loop-c.invariant.0 c.day_code-p.ensures _ c.wait_for-wait.ensures in
    let here = shown-here c.loop-c.invariant.0 c.day_code-p.ensures _ _ c.rule_shows.ensures c.if-rule_shows.false in
    (facts_at_day _ c.days_later-g.ensures (omega arith), omega arith, free-join _ _ c.loop-c.invariant.2 (free-wait _ _ _ here (omega arith) (omega arith)))
