-- `to_do_head` meets its contract: the check-off decides its mark and its three bytes.
use Rattle.std.proofs.Common.{arith}
use Rattle.prelude.specs.Choice.{if_eq}
use Rattle.records.specs.Fields.{fixed_of}
use Rattle.records.specs.Encoding.{fixed_bytes, type_of}
use Rattle.records.proofs.Laws.Bodies.{check_bit}
use Rattle.writer.specs.Heads.{record_head}
use Rattle.writer.proofs.Laws.Heads.{checked_bytes}
use Rattle.writer.proofs.heads.to_do_head.Goals as goal

pub to_do_bytes-requires : goal.to_do_bytes-requires
to_do_bytes-requires c = record { to_do_fit = c.requires; mark_bound = omega (arith, check_bit c.args.d.check_off, c.check_off_bytes.ensures.mark) }

pub returns : goal.returns
unfolding record_head type_of fixed_of if_eq fixed_bytes
returns c = rw (c.to_do_bytes.ensures, c.check_off_bytes.ensures.mark, c.check_off_bytes.ensures.date, checked_bytes)
