-- Counts across C: number 0 and the count, or the refusal with no count; but a list that is too short is refused with the number needed.
-- Assumes nothing.
use Rattle.std.specs.Prelude.{Result, Ok, Err, ℕ}
use Rattle.prelude.specs.Refusals.{no_room}
use Rattle.prelude.specs.declared.refusals.ListRefusal.{ListRefusal}
use Rattle.marshal.specs.declared.count_answers.CountOut.{CountOut}
use Rattle.prelude.specs.declared.refusals.Refusal.{Refusal}

unfoldable pub count_out : Result ℕ Refusal → CountOut
count_out (Ok n) = record { number = 0; place = 0; count = n }
count_out (Err e) = record { number = e.number; place = e.place; count = 0 }

unfoldable pub list_out : Result ℕ ListRefusal → CountOut
list_out (Ok n) = record { number = 0; place = 0; count = n }
list_out (Err (ListRefusal.Short n)) = record { number = no_room; place = 0; count = n }
list_out (Err (ListRefusal.Refused e)) = record { number = e.number; place = e.place; count = 0 }
