-- `head_mark` meets its contract: each number by its two bytes.
use Rattle.prelude.specs.Bytes.{le16}
use Rattle.calendar_writer.specs.Pieces.{head_mark}
use Rattle.calendar_writer.proofs.bytes.head_mark.Goals as goal

pub returns : goal.returns
unfolding head_mark le16
returns c = rw c.to_le_bytes.ensures
