-- No two reasons have one number, and a refusal has none of them: so a number says what its reason says.
-- Assumes nothing.
use Rattle.std.specs.Prelude.{Result, Ok, Err, ℕ, ◌≡◌, refl, List}
use Rattle.std.proofs.Common.{sym, ap, subst, ◌∙◌}
use Rattle.std.proofs.Math.Option.{Option, none, some}
use Rattle.prelude.specs.Choice.{if_eq}
use Rattle.prelude.proofs.Laws.Choice.{constructors_differ}
use Rattle.days.specs.Facts.{facts_of}
use Rattle.days.specs.declared.types.CalendarDay.{CalendarDay}
use Rattle.falls.specs.declared.types.ShortMonth.{ShortMonth}
use Rattle.reasons.specs.Answers.{record_why}
use Rattle.reasons.specs.Holds.{Explained, Promised}
use Rattle.reasons.proofs.Laws.Calls.{why_promised}
use Rattle.reasons.specs.declared.types.Reason.{Reason}
use Rattle.marshal.specs.ReasonAnswers.{reason_number, reason_out, ExplainedOut}
use Rattle.marshal.specs.declared.reason_answers.ReasonOut.{ReasonOut}
use Rattle.prelude.specs.declared.refusals.Refusal.{Refusal}

-- the reason of a number
unfoldable reason_in : ℕ → Option Reason
reason_in n =
    if_eq n 1 (some Reason.OwnDay)
    (if_eq n 2 (some Reason.Moved)
    (if_eq n 3 (some Reason.IsToDo)
    (if_eq n 4 (some Reason.BeforeStart)
    (if_eq n 5 (some Reason.AfterEnd)
    (if_eq n 6 (some Reason.WrongMonth)
    (if_eq n 7 (some Reason.MonthTooShort)
    (if_eq n 8 (some Reason.WrongDay) (if_eq n 9 (some Reason.WrongWeekday) (if_eq n 10 (some Reason.WrongWeek) none)))))))))

number_back : (q : Reason) → reason_in (reason_number q) ≡ some q
unfolding reason_in reason_number if_eq
number_back Reason.OwnDay = refl
number_back Reason.Moved = refl
number_back Reason.IsToDo = refl
number_back Reason.BeforeStart = refl
number_back Reason.AfterEnd = refl
number_back Reason.WrongMonth = refl
number_back Reason.MonthTooShort = refl
number_back Reason.WrongDay = refl
number_back Reason.WrongWeekday = refl
number_back Reason.WrongWeek = refl

zero-none : reason_in 0 ≡ none
unfolding reason_in if_eq
zero-none = refl

none-some : {q : Reason} → ◌≡◌ {A = Option Reason} none (some q) → ⊥
none-some e = constructors_differ cc

some_inj : {p q : Reason} → ◌≡◌ {A = Option Reason} (some p) (some q) → p ≡ q
some_inj e = cc

by_answer : (f : List ℕ) (c : ShortMonth) (n : CalendarDay) (k : ℕ) (a : Result Reason Refusal) → Promised f c n k a → ExplainedOut f c n k (reason_out a)
unfolding reason_out
by_answer f c n k (Ok p) h q e =
    subst (Explained f c (facts_of n.0) k) (some_inj (sym (number_back p) ∙ ap reason_in e ∙ number_back q)) (h p refl)
by_answer f c n k (Err r) h q e = absurd (none-some (sym zero-none ∙ ap reason_in e ∙ number_back q))

-- an answer that crosses as defined keeps what it promises
pub explained_out :
    (f : List ℕ) (c : ShortMonth) (n : CalendarDay) (k : ℕ) {r : ReasonOut} → r ≡ reason_out (record_why f c n k)
    → (r ≡ reason_out (record_why f c n k)) × ExplainedOut f c n k r
explained_out f c n k e =
    (e, λ q h. by_answer f c n k (record_why f c n k) (why_promised f c n k) q (ap (λ (x : ReasonOut). x.reason) (sym e) ∙ h))
