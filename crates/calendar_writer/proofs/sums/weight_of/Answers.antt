-- `weight_of` meets its contract: the mark decides.
use Rattle.std.proofs.Common.{arith, ◌∙◌, ◌≡◌}
use Rattle.prelude.specs.Bytes.{bit}
use Rattle.prelude.proofs.Laws.Choice.{b_elim}
use Rattle.calendar_writer.proofs.sums.weight_of.Goals as goal

pub returns : goal.returns
unfolding bit
returns c =
    let mark : c.from.result ≡ bit c.args.alarm = b_elim (λ m. c.from.result ≡ m) c.args.alarm 1 0 (λ h. c.from.ensures ∙ rw h) (λ h. c.from.ensures ∙ rw h) in
    omega arith
