-- `descriptor_of` meets its contract: each number by its two bytes.
use Rattle.prelude.specs.Bytes.{le16}
use Rattle.calendar_writer.specs.Sums.{descriptor_of}
use Rattle.calendar_writer.proofs.bytes.descriptor_of.Goals as goal

pub returns : goal.returns
unfolding descriptor_of le16
returns c = rw (c.to_le_bytes.ensures, c.to_le_bytes-2.ensures, c.to_le_bytes-3.ensures)
