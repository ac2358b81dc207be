-- `long_head` meets its contract: byte by byte, what its callees give.
use Rattle.prelude.specs.Bytes.{le16, be16}
use Rattle.records.specs.Encoding.{date_bytes, tail_bytes, from_start}
use Rattle.writer.proofs.Laws.Heads.{flag_byte}
use Rattle.writer.proofs.heads.long_head.Goals as goal

pub returns : goal.returns
unfolding from_start tail_bytes date_bytes le16 be16
returns c =
    let alarm = flag_byte c.args.r.alarm in
    rw (c.to_le_bytes.ensures, c.to_be_bytes.ensures, c.date_bytes.ensures, c.to_le_bytes-2.ensures, c.date_bytes-2.ensures, c.to_le_bytes-3.ensures) cc
