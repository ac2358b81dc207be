-- What the tests of the reasons say: passed, the statement holds; failed, it does not.
-- Assumes nothing.
use Rattle.std.specs.Prelude.{ℕ, ◌≡◌, refl, true, false}
use Rattle.std.proofs.Common.{sym, ◌∙◌, true≢false}
use Rattle.std.proofs.lemmas.Bool.{false≢true}
use Rattle.std.proofs.Math.Option.{Option, none, some}
use Rattle.prelude.specs.Choice.{if_eq}
use Rattle.prelude.proofs.Laws.Choice.{constructors_differ, is_eq, eq_take, eq_skip}
use Rattle.days.specs.declared.types.Date.{Date}
use Rattle.days.specs.declared.types.DayFacts.{DayFacts}
use Rattle.records.specs.declared.types.Record.{Record}
use Rattle.falls.proofs.Laws.Moved.{missing_names, names_missing}
use Rattle.falls.specs.declared.types.ShortMonth.{ShortMonth}
use Rattle.reasons.specs.Holds.{Earlier, Later, Differs, Holds}
use Rattle.reasons.specs.Reasons.{is_earlier, is_later, is_other, is_too_short}
use Rattle.reasons.specs.declared.types.Reason.{Reason}

pub earlier_yes : (d : Date) (o : Option Date) → is_earlier d o ≡ true → Earlier d o
unfolding is_earlier
earlier_yes d none h = absurd (false≢true h)
earlier_yes d (some e) h = h

pub earlier_no : (d : Date) (o : Option Date) → is_earlier d o ≡ false → Earlier d o → ⊥
unfolding is_earlier
earlier_no d none h z = z
earlier_no d (some e) h z = true≢false (sym z ∙ h)

pub later_yes : (d : Date) (o : Option Date) → is_later d o ≡ true → Later d o
unfolding is_later
later_yes d none h = absurd (false≢true h)
later_yes d (some e) h = h

pub later_no : (d : Date) (o : Option Date) → is_later d o ≡ false → Later d o → ⊥
unfolding is_later
later_no d none h z = z
later_no d (some e) h z = true≢false (sym z ∙ h)

pub other_yes : (n : ℕ) (o : Option ℕ) → is_other n o ≡ true → Differs n o
unfolding is_other
other_yes n none h = absurd (false≢true h)
other_yes n (some m) h = (eq_skip n m _ _ false≢true h).0

-- numbers are equal where the test for others fails
pub same_by : (n m : ℕ) → if_eq n m false true ≡ false → n ≡ m
same_by n m h = (eq_take n m _ _ true≢false h).0

pub other_no : (n : ℕ) (o : Option ℕ) → is_other n o ≡ false → Differs n o → ⊥
unfolding is_other
other_no n none h z = z
other_no n (some m) h z = z (same_by n m h)

pub short_yes : (c : ShortMonth) (f : DayFacts) (r : Record) → is_too_short c f r ≡ true → Holds c f r Reason.MonthTooShort
unfolding is_too_short
short_yes ShortMonth.Skip f r h =
    let e = eq_take f.date.day f.length _ _ false≢true h in (refl, e.0, missing_names f r e.1)
short_yes ShortMonth.Last f r h = absurd (false≢true h)

pub short_no : (c : ShortMonth) (f : DayFacts) (r : Record) → is_too_short c f r ≡ false → Holds c f r Reason.MonthTooShort → ⊥
unfolding is_too_short
short_no ShortMonth.Skip f r h z = true≢false (sym (is_eq z.1 _ _ ∙ names_missing f r z.2) ∙ h)
short_no ShortMonth.Last f r h z = let e = z.0 in constructors_differ cc
