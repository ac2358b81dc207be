-- Document 02, R-7, over the questions: a line is marked just where the question answers moved, and what shows on pages, in the search and
-- elsewhere is what falls, moved or not.
-- Assumes nothing.
use Rattle.std.specs.Prelude.{Result, Ok, Err, ℕ, zero, suc, ◌<◌, ◌≡◌, refl, Bool, length, get_or}
use Rattle.std.proofs.Common.{sym, ◌∙◌, zero-add}
use Rattle.std.proofs.Math.Path.{ap}
use mathlib.Core.List.{List, [], ◌∷◌, Memᴰ}
use Rattle.prelude.specs.Choice.{if_b}
use Rattle.prelude.specs.Refusals.{no_such_number, refusal}
use Rattle.prelude.specs.declared.refusals.Refusal.{Refusal}
use Rattle.sorting.specs.Keep.{keep}
use Rattle.days.specs.declared.types.CalendarDay.{CalendarDay}
use Rattle.days.specs.declared.types.DayFacts.{DayFacts}
use Rattle.book.specs.Books.{places_of}
use Rattle.falls.specs.Moved.{falling, is_showing}
use Rattle.falls.proofs.Laws.Moved.{falling_shows_lem, falling_missing}
use Rattle.falls.specs.declared.types.Falling.{Falling}
use Rattle.falls.specs.declared.types.ShortMonth.{ShortMonth}
use Rattle.pages.specs.Pages.{Numbered, numbered, falls_on, page_on, page_line_of, nth}
use Rattle.pages.specs.Answers.{validated, falls_in, record_falls, page_line_in, page_line_at}
use Rattle.pages.specs.Invariants.{record_at}
use Rattle.pages.proofs.Laws.Decoding.{Placed, code_placed}
use Rattle.pages.proofs.Laws.Nth.{nth-record}
use Rattle.pages.proofs.Laws.PageFacts.{of_number, page-passes, page_once}
use Rattle.pages.specs.declared.types.Line.{Line}
use Rattle.pages.specs.declared.types.Ready.{Ready}
use Rattle.prelude.proofs.Laws.Results.{err_not_ok, ok_inj}

-- whether the record falls on the day, moved or not
abbrev pub falling_shows : ShortMonth → DayFacts → Numbered → Bool
falling_shows c d x = is_showing (falling c d x.entry.«record»)

-- "the export, the search and the differences treat moved as a showing": the test that they and the pages take is this one
pub shows-falling : (c : ShortMonth) → falls_on c ≡ falling_shows c
shows-falling c = λ i d x. sym (falling_shows_lem c d x.entry.«record») i

-- the page has the record of a number just where the question answers its own day or moved
pub falling_page :
    (c : ShortMonth) (d : DayFacts) (f : List ℕ) (k : ℕ) → k < length (places_of f)
    → keep (of_number k) (page_on c d f) ≡ if_b (falling_shows c d (record_at f k (get_or (places_of f) k 0))) (record_at f k (get_or (places_of f) k 0) ∷ []) []
falling_page c d f k h = rw (falling_shows_lem) (page_once (falls_on c d) f k h)

-- an element at a number
record Found {A X : Type 0} (xs : List A) (some : A → X) (r : X) : Type 0 where
  x : A
  here : Memᴰ x xs
  gives : some x ≡ r

nth_found : {A X : Type 0} {none : X} {some : A → X} {r : X} → (none ≡ r → ⊥) → (xs : List A) (k : ℕ) → nth xs k none some ≡ r → Found xs some r
unfolding nth
nth_found z [] k e = absurd (z e)
nth_found z (x ∷ xs) zero e = record { x = x; here = Memᴰ.head refl; gives = e }
nth_found z (x ∷ xs) (suc k) e = let r = nth_found z xs k e in record { x = r.x; here = Memᴰ.tail r.here; gives = r.gives }

-- what the question answers of the record of a line
abbrev pub answer_of : Line → Result Falling Refusal
answer_of l = Ok (if_b l.moved Falling.Moved Falling.Own)

module _ (f : List ℕ) (c : ShortMonth) (d : DayFacts) (none : Result Falling Refusal) where
  abbrev asked : Numbered → Result Falling Refusal
  asked x = Ok (falling c d x.entry.«record»)

  -- the record of a number is asked about as it stands in the book
  nth-asked : {x : Numbered} → Memᴰ x (page_on c d f) → nth (numbered f) (page_line_of d x).number none asked ≡ answer_of (page_line_of d x)
  unfolding page_line_of
  nth-asked {x} m =
      let p = page-passes (falls_on c d) f m in
      let r : Placed f (places_of f) 0 x = code_placed f p.0 in
      let e : x ≡ record_at f r.index (get_or (places_of f) r.index 0) = rw (zero-add r.index) at r.here in
      ap (λ (z : Numbered). nth (numbered f) z.number none asked) e
      ∙ nth-record f none asked r.index r.inside
      ∙ ap asked (sym e)
      ∙ ap Ok (falling_missing c d x.entry.«record» p.1)

line_in : (f : List ℕ) (c : ShortMonth) (k : ℕ) (v : Result Ready Refusal) {l : Line} → page_line_in (falls_on c) f k v ≡ Ok l → falls_in f c l.number v ≡ answer_of l
unfolding page_line_in falls_in
line_in f c k (Err r) e = absurd (err_not_ok e)
line_in f c k (Ok a) {l} e =
    let r = nth_found err_not_ok (page_on c a.facts f) k e in
    let q : page_line_of a.facts r.x ≡ l = ok_inj r.gives in
    rw q at (nth-asked f c a.facts (Err (refusal no_such_number)) r.here)

-- a line is marked exactly where the question answers moved, and else the question answers its own day
pub line_falling :
    (f : List ℕ) (c : ShortMonth) (n : CalendarDay) (k : ℕ) {l : Line}
    → page_line_at (falls_on c) f n k ≡ Ok l → record_falls f c n l.number ≡ answer_of l
line_falling f c n k e = line_in f c k (validated f n) e
