-- `copy_in` meets its contract: a turn is `paste-suc`, the end `paste-splice`.
use Rattle.std.proofs.Common.{add-one, arith, length, ◌∙◌, ◌≡◌}
use lib.Seq.{paste-suc}
use Rattle.prelude.proofs.Laws.Splice.{paste-splice}
use Rattle.prelude.proofs.slices.copy_in.Goals as goal

pub loop-j-preserved : goal.loop-j-preserved
loop-j-preserved c = rw (c.loop-j.invariant, add-one c.loop-j.j) (paste-suc c.args.dst.now c.args.at c.args.src.now c.loop-j.j 0 (omega arith) (omega arith))

pub returns-clause-put : goal.returns-clause-put
returns-clause-put c = let all : c.loop-j.j ≡ length c.args.src.now = omega arith in
    c.loop-j.invariant ∙ rw all (paste-splice c.args.dst.now c.args.at c.args.src.now)
