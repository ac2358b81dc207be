-- Document 02, R-8, over the questions: "shown" exactly when the page has the record, what the answer of `why` promises, and that
-- it agrees with the question of R-7 and with the page's lines.
-- Assumes nothing.
use Rattle.std.specs.Prelude.{Result, Ok, Err, ℕ, ◌<◌, ◌≤◌, ◌≡◌, refl, Bool, true, false, List, [], ◌∷◌, length, get_or}
use Rattle.std.proofs.Common.{sym, ◌∙◌, ap, subst}
use Rattle.prelude.specs.Choice.{if_b}
use Rattle.prelude.proofs.Laws.Choice.{b_elim, lt_elim}
use Rattle.prelude.specs.Refusals.{no_such_number, refusal}
use Rattle.prelude.specs.declared.refusals.Refusal.{Refusal}
use Rattle.sorting.specs.Keep.{keep}
use Rattle.days.specs.Facts.{facts_of}
use Rattle.days.specs.declared.types.CalendarDay.{CalendarDay}
use Rattle.days.specs.declared.types.DayFacts.{DayFacts}
use Rattle.day_steps.proofs.Laws.Months.{in_length}
use Rattle.records.specs.declared.types.Record.{Record}
use Rattle.book.specs.Books.{places_of}
use Rattle.falls.specs.Falls.{falls}
use Rattle.falls.specs.Moved.{falling, is_showing}
use Rattle.falls.proofs.Laws.Moved.{falling_shows_lem}
use Rattle.falls.specs.declared.types.Falling.{Falling}
use Rattle.falls.specs.declared.types.ShortMonth.{ShortMonth}
use Rattle.pages.specs.Pages.{numbered, falls_on, page_on, nth}
use Rattle.pages.specs.Answers.{validated, falls_in, record_falls, page_line_at}
use Rattle.pages.specs.Invariants.{ReadyBook, record_at}
use Rattle.pages.proofs.Laws.Moved.{line_falling}
use Rattle.pages.proofs.Laws.Nth.{nth-record, nth-no-record, nth_through}
use Rattle.pages.proofs.Laws.PageFacts.{of_number, page_once}
use Rattle.pages.proofs.Laws.Pages.{validated_ready, validated_day-facts}
use Rattle.pages.specs.declared.types.Line.{Line}
use Rattle.pages.specs.declared.types.Ready.{Ready}
use Rattle.reasons.specs.Answers.{why_in, record_why}
use Rattle.reasons.specs.Holds.{Explained, Promised}
use Rattle.reasons.proofs.Laws.Holds.{reason-first, each-true}
use Rattle.reasons.specs.Reasons.{is_to_do, is_too_short, absent_for, or_else, reason_of, says_shown}
use Rattle.reasons.specs.declared.types.Reason.{Reason}
use Rattle.prelude.proofs.Laws.Results.{err_not_ok, ok_inj}

-- the answer to R-7's question that a reason implies
unfoldable pub falling_for : Reason → Falling
falling_for Reason.OwnDay = Falling.Own
falling_for Reason.Moved = Falling.Moved
falling_for Reason.IsToDo = Falling.No
falling_for Reason.BeforeStart = Falling.No
falling_for Reason.AfterEnd = Falling.No
falling_for Reason.WrongMonth = Falling.No
falling_for Reason.MonthTooShort = Falling.No
falling_for Reason.WrongDay = Falling.No
falling_for Reason.WrongWeekday = Falling.No
falling_for Reason.WrongWeek = Falling.No

absent_no : (c : ShortMonth) (f : DayFacts) (r : Record) → falling_for (absent_for c f r) ≡ Falling.No
unfolding absent_for falling_for
absent_no c f r =
    b_elim P (is_to_do r) _ _ (λ _. refl)
    (λ _. b_elim P _ _ _ (λ _. refl)
    (λ _. b_elim P _ _ _ (λ _. refl)
    (λ _. b_elim P _ _ _ (λ _. refl)
    (λ _. b_elim P (is_too_short c f r) _ _ (λ _. refl)
    (λ _. b_elim P _ _ _ (λ _. refl) (λ _. b_elim P _ _ _ (λ _. refl) (λ _. refl)))))))
  where
    P : Reason → Type 0
    P z = falling_for z ≡ Falling.No

else_falling : (c : ShortMonth) (f : DayFacts) (r : Record) (z : Falling) → falling_for (or_else z (absent_for c f r)) ≡ z
unfolding or_else falling_for
else_falling c f r Falling.No = absent_no c f r
else_falling c f r Falling.Own = refl
else_falling c f r Falling.Moved = refl

pub reason_falling : (c : ShortMonth) (f : DayFacts) (r : Record) → falling_for (reason_of c f r) ≡ falling c f r
unfolding reason_of
reason_falling c f r = else_falling c f r (falling c f r)

says_falling : (q : Reason) → says_shown q ≡ is_showing (falling_for q)
unfolding says_shown is_showing falling_for
says_falling Reason.OwnDay = refl
says_falling Reason.Moved = refl
says_falling Reason.IsToDo = refl
says_falling Reason.BeforeStart = refl
says_falling Reason.AfterEnd = refl
says_falling Reason.WrongMonth = refl
says_falling Reason.MonthTooShort = refl
says_falling Reason.WrongDay = refl
says_falling Reason.WrongWeekday = refl
says_falling Reason.WrongWeek = refl

pub shown_just : (c : ShortMonth) (f : DayFacts) (r : Record) → says_shown (reason_of c f r) ≡ falls c f r
shown_just c f r = says_falling (reason_of c f r) ∙ ap is_showing (reason_falling c f r) ∙ falling_shows_lem c f r

-- "the reason says "shown" exactly when the page has the record"
pub shown_page :
    (c : ShortMonth) (d : DayFacts) (f : List ℕ) (k : ℕ) → k < length (places_of f)
    → keep (of_number k) (page_on c d f) ≡ if_b (says_shown (reason_of c d (record_at f k (get_or (places_of f) k 0)).entry.«record»)) (record_at f k (get_or (places_of f) k 0) ∷ []) []
shown_page c d f k h = rw (shown_just) (page_once (falls_on c d) f k h)

-- what is known of the record of a number in an accepted question
pub ready_explained :
    (f : List ℕ) (c : ShortMonth) (k : ℕ) {a : Ready} → ReadyBook f a → k < length (places_of f)
    → Explained f c a.facts k (reason_of c a.facts (record_at f k (get_or (places_of f) k 0)).entry.«record»)
ready_explained f c k {a} r h =
    let l : a.facts.date.day ≤ a.facts.length = rw r.facts (in_length a.facts.day.0 r.day) in
    record { holds = each-true c a.facts l _; first = reason-first c a.facts l _; page = shown_page c a.facts f k h }

-- over any facts that are those of the accepted question
why_explained :
    (f : List ℕ) (c : ShortMonth) (k : ℕ) (d : DayFacts) (v : Result Ready Refusal) → ((a : Ready) → v ≡ Ok a → ReadyBook f a × (a.facts ≡ d))
    → (q : Reason) → why_in f c k v ≡ Ok q → Explained f c d k q
unfolding why_in
why_explained f c k d (Ok a) known q e =
    let r = known a refl in
    lt_elim {X = Unit {0}} (λ _. Explained f c d k q) k (length (places_of f)) tt tt
    (λ h. subst (λ z. Explained f c z k q) r.1 (subst (Explained f c a.facts k) (ok_inj (sym (nth-record f _ _ k h) ∙ e)) (ready_explained f c k r.0 h)))
    (λ h. absurd (err_not_ok (sym (nth-no-record f _ _ k h) ∙ e)))
why_explained f c k d (Err r) known q e = absurd (err_not_ok e)

-- what the answer to the question promises
pub why_promised : (f : List ℕ) (c : ShortMonth) (n : CalendarDay) (k : ℕ) → Promised f c n k (record_why f c n k)
why_promised f c n k = why_explained f c k (facts_of n.0) (validated f n) (λ a h. (validated_ready f n h, validated_day-facts f n h))

-- the answer of R-7's question that an answer with a reason implies
unfoldable pub falling_answer : Result Reason Refusal → Result Falling Refusal
falling_answer (Ok q) = Ok (falling_for q)
falling_answer (Err e) = Err e

why_falls_in : (f : List ℕ) (c : ShortMonth) (k : ℕ) (v : Result Ready Refusal) → falling_answer (why_in f c k v) ≡ falls_in f c k v
unfolding why_in falls_in falling_answer
why_falls_in f c k (Ok a) =
    nth_through falling_answer (numbered f) k _ _
    ∙ (λ i. nth (numbered f) k (Err (refusal no_such_number)) (λ x. Ok (reason_falling c a.facts x.entry.«record» i)))
why_falls_in f c k (Err e) = refl

-- the two questions agree, refusals and all
pub why_falling : (f : List ℕ) (c : ShortMonth) (n : CalendarDay) (k : ℕ) → falling_answer (record_why f c n k) ≡ record_falls f c n k
why_falling f c n k = why_falls_in f c k (validated f n)

-- a reason that says shown is known by what it implies
back_again : (q : Reason) → or_else (falling_for q) q ≡ q
unfolding or_else falling_for
back_again Reason.OwnDay = refl
back_again Reason.Moved = refl
back_again Reason.IsToDo = refl
back_again Reason.BeforeStart = refl
back_again Reason.AfterEnd = refl
back_again Reason.WrongMonth = refl
back_again Reason.MonthTooShort = refl
back_again Reason.WrongDay = refl
back_again Reason.WrongWeekday = refl
back_again Reason.WrongWeek = refl

else_mark : (m : Bool) (q : Reason) → or_else (if_b m Falling.Moved Falling.Own) q ≡ if_b m Reason.Moved Reason.OwnDay
unfolding or_else if_b
else_mark true q = refl
else_mark false q = refl

marked_reason : (w : Result Reason Refusal) (m : Bool) → falling_answer w ≡ Ok (if_b m Falling.Moved Falling.Own) → w ≡ Ok (if_b m Reason.Moved Reason.OwnDay)
unfolding falling_answer
marked_reason (Ok q) m e =
    ap Ok (sym (back_again q) ∙ ap (λ (z : Falling). or_else z q) (ok_inj e) ∙ else_mark m q)
marked_reason (Err r) m e = absurd (err_not_ok e)

-- of the record of any line of a page the reason is its own day, or moved just where the line is marked
pub line_why :
    (f : List ℕ) (c : ShortMonth) (n : CalendarDay) (j : ℕ) {l : Line}
    → page_line_at (falls_on c) f n j ≡ Ok l → record_why f c n l.number ≡ Ok (if_b l.moved Reason.Moved Reason.OwnDay)
line_why f c n j {l} e =
    marked_reason (record_why f c n l.number) l.moved (why_falling f c n l.number ∙ line_falling f c n j e)
