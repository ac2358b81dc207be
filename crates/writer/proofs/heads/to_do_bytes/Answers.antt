-- `to_do_bytes` meets its contract: byte by byte, what its callees give.
use Rattle.std.proofs.Common.{arith}
use Rattle.prelude.specs.Bytes.{le16}
use Rattle.records.specs.Encoding.{date_bytes}
use Rattle.records.proofs.Laws.Bodies.{state_byte}
use Rattle.writer.proofs.Laws.Heads.{flag_byte}
use Rattle.writer.proofs.heads.to_do_bytes.Goals as goal

pub overflow_add-result : goal.overflow_add-result
overflow_add-result c = omega (arith, flag_byte c.args.d.carry_forward, state_byte c.args.d.carry_forward)

pub returns : goal.returns
unfolding date_bytes le16
returns c =
    let carry = flag_byte c.args.d.carry_forward in
    rw (c.to_le_bytes.ensures, c.date_bytes.ensures, c.to_le_bytes-2.ensures) cc
