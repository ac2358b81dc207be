-- `open_bytes` meets its contract: byte by byte, what its callees give.
use Rattle.prelude.specs.Bytes.{le16}
use Rattle.writer.specs.Writing.{open_bytes}
use Rattle.writer.proofs.Laws.Heads.{flag_byte}
use Rattle.writer.proofs.calls.open_bytes.Goals as goal

pub returns : goal.returns
unfolding open_bytes le16
returns c = rw (c.to_le_bytes.ensures, c.to_le_bytes-2.ensures, c.from.ensures, c.from-2.ensures, flag_byte c.args.s.alarm, flag_byte c.args.s.carry_forward)
