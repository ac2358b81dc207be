-- `fillers_from` meets its contract: what is behind are fillers, by the laws of one byte on.
use Rattle.std.proofs.Common.{drop, get_or, take, ◌-◌, Err, ap, arith, sym, length, ◌+◌, ◌<◌, ◌≤◌, ◌∙◌, ◌≡◌}
use Rattle.std.proofs.lemmas.Grind.{common_steps}
use Rattle.prelude.specs.Bytes.{byte}
use Rattle.book.specs.Fillers.{filler}
use Rattle.book.proofs.Laws.Fillers.{filler-on, filler-other, filler_end}
use Rattle.book.proofs.fillers.fillers_from.Goals as goal

pub returns-then-b-ne-FILLER : goal.returns-then-b-ne-FILLER
returns-then-b-ne-FILLER c =
    let inside : c.args.from + c.loop-i.i < length c.args.file.now = grind (arith, common_steps) in
    let here : get_or (take (length c.args.file.now - c.args.from) (drop c.args.from c.args.file.now)) c.loop-i.i 0 ≡ byte c.args.file.now (c.args.from + c.loop-i.i) = grind (arith, common_steps) in
    ap Err c.at.ensures ∙ sym (c.loop-i.invariant ∙ filler-other c.args.file.now (c.args.from + c.loop-i.i) inside (λ (e : byte c.args.file.now (c.args.from + c.loop-i.i) ≡ filler). omega arith))

pub loop-i-preserved : goal.loop-i-preserved
loop-i-preserved c =
    let inside : c.args.from + c.loop-i.i < length c.args.file.now = grind (arith, common_steps) in
    let same : byte c.args.file.now (c.args.from + c.loop-i.i) ≡ filler = grind (arith, common_steps) in
    let next : c.args.from + (c.loop-i.i + 1) ≡ c.args.from + c.loop-i.i + 1 = omega arith in
    rw next (c.loop-i.invariant ∙ filler-on c.args.file.now (c.args.from + c.loop-i.i) inside same)

pub returns : goal.returns
returns c =
    let past : length c.args.file.now ≤ c.args.from + c.loop-i.i = grind (arith, common_steps) in
    sym (c.loop-i.invariant ∙ filler_end c.args.file.now (c.args.from + c.loop-i.i) past)
