-- `date_bytes` meets its contract: byte by byte.
use Rattle.std.proofs.Common.{refl}
use Rattle.records.specs.Encoding.{date_bytes}
use Rattle.writer.proofs.bytes.date_bytes.Goals as goal

pub returns : goal.returns
unfolding date_bytes
returns c = refl
