-- `put_zeros` meets its contract: the part is filled.
use Rattle.std.proofs.Common.{ap, arith, drop, length, length-drop, length-take-le, refl, take, ℕ, ◌+◌, ◌-◌, ◌∙◌, ◌≡◌}
use Rattle.std.proofs.lemmas.Slice.{put_mid-paste}
use Rattle.prelude.proofs.Laws.Splice.{paste-splice}
use Rattle.calendar.specs.File.{zeros}
use Rattle.calendar.proofs.Laws.File.{length-zeros}
use Rattle.calendar_writer.proofs.puts.put_zeros.Goals as goal

pub returns-clause-put : goal.returns-clause-put
returns-clause-put c =
    let k = c.args.at + c.args.n - c.args.at in
    let z = length-zeros c.args.n in
    let l : length (take k (drop c.args.at c.args.out.now)) ≡ c.args.n = length-take-le k (drop c.args.at c.args.out.now) (omega (arith, length-drop c.args.at c.args.out.now)) ∙ omega arith in
    put_mid-paste c.args.at k c.args.out.now c.fill.new.self (zeros c.args.n) (length (zeros c.args.n)) (c.fill.ensures.after (λ y h. h) ∙ ap (λ (m : ℕ). zeros m) l) (omega arith) refl
    ∙ paste-splice _ _ _
