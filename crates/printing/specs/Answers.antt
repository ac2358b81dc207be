-- What printing a page gives, document 01 "Order": the book's refusals first, then 11, then 12.
-- Assumes nothing.
use Rattle.std.specs.Prelude.{Result, Ok, Err, ℕ, Bool, List, length}
use Rattle.prelude.specs.Choice.{if_lt}
use Rattle.prelude.specs.Splice.{splice}
use Rattle.prelude.specs.Refusals.{no_room, refusal}
use Rattle.days.specs.declared.types.CalendarDay.{CalendarDay}
use Rattle.days.specs.declared.types.DayFacts.{DayFacts}
use Rattle.pages.specs.Pages.{Numbered}
use Rattle.pages.specs.Answers.{validated}
use Rattle.printing.specs.Printed.{page_text}
use Rattle.prelude.specs.declared.refusals.Refusal.{Refusal}
use Rattle.pages.specs.declared.types.Ready.{Ready}

-- how many bytes the printed page has
unfoldable pub page_length_in : (DayFacts → Numbered → Bool) → List ℕ → Result Ready Refusal → Result ℕ Refusal
page_length_in shows f (Ok a) = Ok (length (page_text shows f a.facts))
page_length_in shows f (Err e) = Err e

-- the same of a file and a day
abbrev pub page_length : (DayFacts → Numbered → Bool) → List ℕ → CalendarDay → Result ℕ Refusal
page_length shows f n = page_length_in shows f (validated f n)

-- "12: lent buffer shorter than the .. list to be written"; else how many bytes were written
abbrev pub text_gives : ℕ → List ℕ → Result ℕ Refusal
text_gives room text = if_lt room (length text) (Err (refusal no_room)) (Ok (length text))

-- "No lent byte changes. After success, bytes past the written length are as before."
abbrev pub text_leaves : List ℕ → List ℕ → List ℕ
text_leaves out text = if_lt (length out) (length text) out (splice out 0 text)

-- what printing gives
unfoldable pub print_in : (DayFacts → Numbered → Bool) → List ℕ → ℕ → Result Ready Refusal → Result ℕ Refusal
print_in shows f room (Ok a) = text_gives room (page_text shows f a.facts)
print_in shows f room (Err e) = Err e

-- the same of a file and a day
abbrev pub print_gives : (DayFacts → Numbered → Bool) → List ℕ → CalendarDay → ℕ → Result ℕ Refusal
print_gives shows f n room = print_in shows f room (validated f n)

-- what printing leaves in the buffer
unfoldable pub print_leaves : (DayFacts → Numbered → Bool) → List ℕ → List ℕ → Result Ready Refusal → List ℕ
print_leaves shows f out (Ok a) = text_leaves out (page_text shows f a.facts)
print_leaves shows f out (Err e) = out

-- the same of a file and a day
abbrev pub print_left : (DayFacts → Numbered → Bool) → List ℕ → CalendarDay → List ℕ → List ℕ
print_left shows f n out = print_leaves shows f out (validated f n)
