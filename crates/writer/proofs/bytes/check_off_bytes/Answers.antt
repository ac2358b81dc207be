-- `check_off_bytes` meets its contract: the check-off decides its mark and its three bytes.
use Rattle.records.specs.Encoding.{check_off_bit, check_off_bytes}
use Rattle.writer.proofs.bytes.check_off_bytes.Goals as goal

pub returns-in-Some : goal.returns-in-Some
unfolding check_off_bit check_off_bytes
returns-in-Some c = record { mark = rw c.in-Some.is; date = rw c.in-Some.is c.date_bytes.ensures }

pub returns-in-None : goal.returns-in-None
unfolding check_off_bit check_off_bytes
returns-in-None c = record { mark = rw c.in-None.is; date = rw c.in-None.is }
