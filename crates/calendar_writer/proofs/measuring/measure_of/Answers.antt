-- `measure_of` meets its contract: its test is the definition's choice.
use Rattle.std.proofs.Common.{false, lt-ltb, le-ltb, nat_lt, true, ℕ, ◌+◌, ◌≡◌}
use Rattle.prelude.specs.Choice.{if_lt}
use Rattle.prelude.proofs.Laws.Choice.{lt_elim}
use Rattle.calendar.specs.File.{first_unit, last_block}
use Rattle.calendar_writer.proofs.measuring.measure_of.Goals as goal

tested : (a b : ℕ) → nat_lt a b ≡ if_lt a b true false
tested a b = lt_elim (λ z. nat_lt a b ≡ z) a b true false (λ h. lt-ltb a b h) (λ h. le-ltb a b h)

pub returns : goal.returns
returns c = rw (c.first_unit-first.ensures, tested last_block (first_unit c.args.n + c.args.last))
