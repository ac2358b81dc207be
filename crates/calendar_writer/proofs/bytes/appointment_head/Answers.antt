-- `appointment_head` meets its contract: each number by its two bytes.
use Rattle.prelude.specs.Bytes.{le16}
use Rattle.calendar_writer.specs.Pieces.{appointment_head}
use Rattle.calendar_writer.proofs.bytes.appointment_head.Goals as goal

pub returns : goal.returns
unfolding appointment_head le16
returns c = rw c.to_le_bytes.ensures
