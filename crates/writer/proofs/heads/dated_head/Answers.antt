-- `dated_head` meets its contract: byte by byte, what its callees give.
use Rattle.prelude.specs.Choice.{if_eq}
use Rattle.prelude.specs.Bytes.{le16, be16}
use Rattle.records.specs.Fields.{fixed_of}
use Rattle.records.specs.Encoding.{date_bytes, fixed_bytes, type_of}
use Rattle.writer.specs.Heads.{record_head}
use Rattle.writer.proofs.Laws.Heads.{flag_byte}
use Rattle.writer.proofs.heads.dated_head.Goals as goal

pub returns : goal.returns
unfolding record_head type_of fixed_of if_eq fixed_bytes date_bytes le16 be16
returns c =
    let alarm = flag_byte c.args.d.alarm in
    rw (c.to_le_bytes.ensures, c.date_bytes.ensures, c.to_be_bytes.ensures, c.to_le_bytes-2.ensures, c.to_le_bytes-3.ensures) cc
