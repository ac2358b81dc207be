-- `to_zero` meets its contract. The loop keeps that no zero stands before `end`.
use Rattle.std.proofs.Common.{arith, drop, drop-drop, length-drop, length-take-le, take, length, ◌+◌, ◌-◌, ◌≡◌}
use Rattle.texts.proofs.Laws.Notes.{to_zero_early, to_zero_later}
use Rattle.texts.proofs.lines.to_zero.Goals as goal

pub returns-in-Some : goal.returns-in-Some
returns-in-Some c =
    let rest = drop c.loop-end.end c.args.s.now in
    let n = length-drop c.loop-end.end c.args.s.now in
    let four : c.loop-end.end + 4 - c.loop-end.end ≡ 4 = omega arith in
    let m : length (take 4 rest) ≡ 4 = length-take-le 4 rest (omega arith) in
    let f = rw four at c.in-Some.ensures.value in
    let l = rw four at c.in-Some.ensures.within in
    omega (arith, f, to_zero_early 4 rest (omega (arith, f, l, m)))

pub loop-end-preserved : goal.loop-end-preserved
loop-end-preserved c =
    let rest = drop c.loop-end.end c.args.s.now in
    let n = length-drop c.loop-end.end c.args.s.now in
    let four : c.loop-end.end + 4 - c.loop-end.end ≡ 4 = omega arith in
    let m : length (take 4 rest) ≡ 4 = length-take-le 4 rest (omega arith) in
    let d : drop 4 rest ≡ drop (c.loop-end.end + 4) c.args.s.now = drop-drop 4 c.loop-end.end c.args.s.now in
    let f = rw four at c.in_default.ensures.value in
    (omega arith, omega (arith, rw d at (to_zero_later 4 rest (omega (arith, f, m)))))
