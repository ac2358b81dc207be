-- Equal lengths would be against the tests.
use Rattle.std.proofs.Common.{arith, refl}
use Rattle.prelude.proofs.Laws.Choice.{bool_cases}
use Rattle.chains.specs.Chains.{sizes_ok}
use Rattle.chains.proofs.Laws.Linked.{sizes_ok_equal_lengths}
use Rattle.chains.proofs.records.Records.new.Goals as goal

pub returns-then-next-count : goal.returns-then-next-count
returns-then-next-count c = record {
  these = tt;
  unequal = (refl, bool_cases (sizes_ok _ _ _ _) (λ e. let z = sizes_ok_equal_lengths _ _ _ _ refl e in absurd (omega arith)) (λ e. e));
}
