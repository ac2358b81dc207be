-- `settings_words` meets its contract: each number by its two bytes.
use Rattle.prelude.specs.Bytes.{le16}
use Rattle.calendar_writer.specs.Pieces.{settings_words}
use Rattle.calendar_writer.proofs.bytes.settings_words.Goals as goal

pub returns : goal.returns
unfolding settings_words le16
returns c = rw (c.to_le_bytes.ensures, c.to_le_bytes-2.ensures, c.to_le_bytes-3.ensures, c.to_le_bytes-4.ensures, c.to_le_bytes-5.ensures, c.to_le_bytes-6.ensures)
