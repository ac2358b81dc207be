-- `first_from` meets its contract: in a rising list the numbers that are below one come first.
use Rattle.std.proofs.Common.{arith, rules, ltb, ltb-true, ltb-false}
use Rattle.std.proofs.lemmas.List.Sorted.{IsPartitionPoint-from_clause, IsPartitionedBy-ltb, IsNonDecreasingBy-from_default}
use Rattle.rising.proofs.Laws.Rising.{rising_at_most}
use Rattle.rising.proofs.searching.first_from.Goals as goal

pub returns : goal.returns
returns c =
    let parted = IsPartitionedBy-ltb (λ x. x) c.args.list.now c.args.number (IsNonDecreasingBy-from_default (λ x. x) c.args.list.now 0 (rising_at_most c.requires)) in
    let point = IsPartitionPoint-from_clause (λ x. ltb x c.args.number) _ _ c.partition_point.ensures.partitioned parted (λ a r q k. search rules) in
    record {
      below = record { most = c.partition_point.ensures.bound; each = λ i h. ltb-true _ _ (point.0 i 0 (omega arith) h) };
      above = λ i l h. ltb-false _ _ (point.1 i 0 l h);
    }
