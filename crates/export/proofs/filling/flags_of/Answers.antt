-- `flags_of` meets its contract: the alarm's mark, and the test that decides flag 2.
use mir.Val.{bool_byte}
use Rattle.std.proofs.Common.{arith, eq-eqb, nat_eq, ne_eqb, not, ◌%◌, ◌*◌, ◌∙◌, ◌≡◌}
use Rattle.prelude.proofs.Laws.Choice.{eq_elim}
use Rattle.export.specs.Export.{special_time}
use Rattle.export.proofs.Laws.Export.{mark_bit}
use Rattle.export.proofs.filling.flags_of.Goals as goal

pub returns : goal.returns
unfolding special_time
returns c =
    let m = c.args.minute.0 % c.args.interval in
    let mark : c.from-2.result ≡ bool_byte (not (nat_eq m 0)) = c.from-2.ensures in
    let special : 2 * c.from-2.result ≡ special_time c.args.interval c.args.minute.0 =
    eq_elim (λ z. 2 * c.from-2.result ≡ z) m 0 0 2 (λ e. rw (mark, eq-eqb m 0 e)) (λ n. rw (mark, ne_eqb m 0 n)) in
    omega (arith, c.from.ensures ∙ mark_bit c.args.alarm, special)
