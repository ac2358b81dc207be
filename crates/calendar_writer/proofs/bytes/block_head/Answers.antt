-- `block_head` meets its contract: each number by its two bytes.
use Rattle.prelude.specs.Bytes.{le16}
use Rattle.calendar_writer.specs.Sums.{block_head}
use Rattle.calendar_writer.proofs.bytes.block_head.Goals as goal

pub returns : goal.returns
unfolding block_head le16
returns c = rw (c.to_le_bytes.ensures, c.to_le_bytes-2.ensures)
