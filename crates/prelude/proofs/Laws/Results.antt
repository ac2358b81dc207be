-- Laws of results: an error is no value, and equal results hold equal values.
-- Assumes nothing.
use Rattle.std.specs.Prelude.{Result, Ok, Err, IsErrAnd, ◌≡◌}
use Rattle.std.proofs.Common.{ap}
use Rattle.prelude.proofs.Laws.Choice.{constructors_differ}

pub err_not_ok : {T E : Type 0} {e : E} {x : T} → ◌≡◌ {A = Result T E} (Err e) (Ok x) → ⊥
err_not_ok h = constructors_differ cc

pub ok_inj : {T E : Type 0} {x y : T} → ◌≡◌ {A = Result T E} (Ok x) (Ok y) → x ≡ y
ok_inj h = cc

pub ok_not_err : {T E : Type 0} {x : T} {e : E} → ◌≡◌ {A = Result T E} (Ok x) (Err e) → ⊥
ok_not_err h = constructors_differ cc

pub err_inj : {T E : Type 0} {d e : E} → ◌≡◌ {A = Result T E} (Err d) (Err e) → d ≡ e
err_inj h = cc

-- What a `?` returns where the error goes on as it is.
pub err_passed : {T E : Type 0} {r : Result T E} {e : E} → IsErrAnd r (λ y. y ≡ e) → r ≡ Err e
err_passed {r = Ok x} h = absurd h
err_passed {r = Err y} h = ap Err h
