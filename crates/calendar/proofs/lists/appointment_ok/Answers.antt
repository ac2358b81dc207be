-- `appointment_ok` meets its contract: each return is the choice that its tests make.
use Rattle.std.proofs.Common.{arith, refl}
use Rattle.prelude.proofs.Laws.Choice.{lt_yes, lt_no}
use Rattle.calendar.specs.Lists.{appointment_ok}
use Rattle.calendar.proofs.lists.appointment_ok.Goals as goal
use Rattle.calendar.proofs.lists.appointment_ok.Goals.{then-size-lt-LEAST_SIZE-via-then-size-lt-LEAST_SIZE, then-size-lt-LEAST_SIZE-via-else-size-lt-LEAST_SIZE+then-end-at, then-size-lt-LEAST_SIZE-via-else-size-lt-LEAST_SIZE+else-end-at+then-file-at-gt3, then-minute-gt-LAST_MINUTE-via-then-minute-gt-LAST_MINUTE, then-minute-gt-LAST_MINUTE-via-else-minute-gt-LAST_MINUTE+then-minute-low}

pub returns-then-size-lt-LEAST_SIZE : goal.returns-then-size-lt-LEAST_SIZE
unfolding appointment_ok
returns-then-size-lt-LEAST_SIZE c = elim c.then-size-lt-LEAST_SIZE.branch [
  | then-size-lt-LEAST_SIZE-via-then-size-lt-LEAST_SIZE w ↦ lt_yes _ _ _ (omega arith) refl
  | then-size-lt-LEAST_SIZE-via-else-size-lt-LEAST_SIZE+then-end-at w ↦ lt_no _ _ _ (omega arith) (lt_yes _ _ _ (omega arith) refl)
  | then-size-lt-LEAST_SIZE-via-else-size-lt-LEAST_SIZE+else-end-at+then-file-at-gt3 w ↦ lt_no _ _ _ (omega arith) (lt_no _ _ _ (omega arith) (lt_yes _ _ _ (omega arith) refl))
]

pub returns-then-minute-gt-LAST_MINUTE : goal.returns-then-minute-gt-LAST_MINUTE
unfolding appointment_ok
returns-then-minute-gt-LAST_MINUTE c =
    lt_no _ _ _ (omega arith) (lt_no _ _ _ (omega arith) (lt_no _ _ _ (omega arith)
    (elim c.then-minute-gt-LAST_MINUTE.branch [
      | then-minute-gt-LAST_MINUTE-via-then-minute-gt-LAST_MINUTE w ↦ lt_yes _ _ _ (omega arith) refl
      | then-minute-gt-LAST_MINUTE-via-else-minute-gt-LAST_MINUTE+then-minute-low w ↦ lt_no _ _ _ (omega arith) (lt_yes _ _ _ (omega arith) refl)
    ])))

pub returns : goal.returns
unfolding appointment_ok
returns c = lt_no _ _ _ (omega arith) (lt_no _ _ _ (omega arith) (lt_no _ _ _ (omega arith) (lt_no _ _ _ (omega arith) (lt_no _ _ _ (omega arith) (cc)))))
