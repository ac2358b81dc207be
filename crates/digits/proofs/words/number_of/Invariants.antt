-- `number_of` meets its contract. The loop keeps: v is the value of the bytes that were read, and it is below 65,536.
use Rattle.std.proofs.Common.{drop, ◌<◌, ◌≡◌}
use Rattle.digits.specs.Digits.{value_from, value}
use Rattle.digits.proofs.words.number_of.Given as goal

abbrev pub invariant-loop-b : goal.invariant-loop-b
invariant-loop-b l = (l.v < 65536) × (value l.w ≡ value_from l.v (drop l.b-index l.w))
