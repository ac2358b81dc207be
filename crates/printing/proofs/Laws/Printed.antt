-- Laws of the printed page: how long its lines are, and the lines one by one as codes give them.
-- Assumes nothing.
use Rattle.std.specs.Prelude.{ℕ, ◌+◌, ◌<◌, ◌≤◌, ◌≡◌, Bool, true, false, get_or, take, drop}
use Rattle.std.proofs.Math.Path.{refl, ap}
use Rattle.std.proofs.Common.{sym, ◌∙◌, arith, drop_of_length-le, drop-cons}
use mathlib.Core.List.Memᴰ
use mathlib.Core.List.{List, [], ◌∷◌, ◌++◌, map, Memᴰ}
use Rattle.std.proofs.Math.Numerals.{add-one}
use Rattle.std.proofs.Math.ListN.{length, length-append}
use Rattle.std.proofs.lemmas.List.{length-map}
use Rattle.prelude.specs.Bytes.{bit, stretch_bytes}
use Rattle.prelude.specs.Choice.{if_b}
use Rattle.prelude.proofs.Laws.Choice.{eq_elim}
use Rattle.prelude.proofs.Laws.Members.{member_at}
use Rattle.sorting.specs.Totals.{total}
use Rattle.digits.specs.Digits.{two, four, decimal}
use Rattle.days.specs.declared.types.Date.{Date}
use Rattle.days.specs.declared.types.DayFacts.{DayFacts}
use Rattle.book.specs.Books.{entry_at, places_of}
use Rattle.book.proofs.Laws.Counts.{count_most}
use Rattle.book.proofs.Laws.Entries.{record_there}
use Rattle.falls.specs.Moved.{day_missing}
use Rattle.pages.specs.Pages.{Numbered, page_of, page_line_of}
use Rattle.pages.specs.Codes.{code, place_in, decode}
use Rattle.pages.specs.Invariants.{ReadyBook}
use Rattle.pages.proofs.Laws.Codes.{code_at}
use Rattle.pages.proofs.Laws.Decoding.{Placed, page-decoded, page-placed, place_inside}
use Rattle.pages.specs.declared.types.Ready.{Ready}
use Rattle.pages.specs.declared.types.Line.{Line}
use Rattle.printing.specs.Printed.{date_text, weekday_name, head_line, clock, moved_mark, page_line, page_lines, printed, page_text}
use Rattle.printing.specs.Coded.{coded_lines, coded_text, CodesOf}

length-date : (d : Date) → length (date_text d) ≡ 10
unfolding date_text two four
length-date d = refl

length_weekday : (w : ℕ) → length (weekday_name w) ≡ 3
unfolding weekday_name
length_weekday w =
    eq_elim P w 1 _ _ (λ _. refl)
    (λ _. eq_elim P w 2 _ _ (λ _. refl)
    (λ _. eq_elim P w 3 _ _ (λ _. refl)
    (λ _. eq_elim P w 4 _ _ (λ _. refl) (λ _. eq_elim P w 5 _ _ (λ _. refl) (λ _. eq_elim P w 6 _ _ (λ _. refl) (λ _. refl))))))
  where
    P : List ℕ → Type 0
    P xs = length xs ≡ 3

length-clock : (m : ℕ) → length (clock m) ≡ 5
unfolding clock two
length-clock m = refl

pub length_head : (d : DayFacts) (n : ℕ) → length (head_line d n) ≡ 16 + length (decimal n)
unfolding head_line
length_head d n =
    let a = length-date d.date in
    let b = length_weekday d.weekday in
    simp length-append (omega arith)

length_mark : (moved : Bool) → length (moved_mark moved) ≡ bit moved
unfolding moved_mark bit if_b
length_mark true = refl
length_mark false = refl

pub length_line : (f : List ℕ) (l : Line) → length (page_line f l) ≡ 13 + bit l.moved + length (stretch_bytes f l.text)
unfolding page_line
length_line f l =
    let a = length-clock l.start.0 in
    let b = length-clock l.end.0 in
    let m = length_mark l.moved in
    simp length-append (omega arith)

-- what a record counts on the page of the day whose facts are d
abbrev pub line_size : List ℕ → DayFacts → Numbered → ℕ
line_size f d x = length (page_line f (page_line_of d x))

pub line_size_lem :
    (f : List ℕ) (d : DayFacts) (x : Numbered)
    → line_size f d x ≡ 13 + bit (day_missing d x.entry.«record») + length (stretch_bytes f x.entry.text)
unfolding page_line_of
line_size_lem f d x = length_line f (page_line_of d x)

module _ (f : List ℕ) (d : DayFacts) where
  pub length-lines : (xs : List Numbered) → length (page_lines f (map (page_line_of d) xs)) ≡ total (line_size f d) xs
  unfolding page_lines total
  length-lines [] = refl
  length-lines (x ∷ xs) = length-append (page_line f (page_line_of d x)) (page_lines f (map (page_line_of d) xs)) ∙ rw (length-lines xs)

  pub lines_next :
      (codes : List ℕ) (i : ℕ) → i < length codes
      → page_lines f (coded_lines f d (drop i codes)) ≡ page_line f (page_line_of d (decode f (get_or codes i 0))) ++ page_lines f (coded_lines f d (drop (i + 1) codes))
  unfolding page_lines
  lines_next codes i h = rw (drop-cons codes i 0 h, add-one i)

  pub lines_end : (codes : List ℕ) (i : ℕ) → length codes ≤ i → page_lines f (coded_lines f d (drop i codes)) ≡ []
  unfolding page_lines
  lines_end codes i h = rw (drop_of_length-le codes h)

  -- one line's bytes on
  pub lines-on :
      (codes : List ℕ) (i bytes : ℕ) → i < length codes
      → length (page_lines f (coded_lines f d codes)) ≡ bytes + length (page_lines f (coded_lines f d (drop i codes)))
      → let e = entry_at f (place_in (get_or codes i 0)) in length (page_lines f (coded_lines f d codes)) ≡ bytes + (13 + bit (day_missing d e.«record») + length (stretch_bytes f e.text)) + length (page_lines f (coded_lines f d (drop (i + 1) codes)))
  unfolding decode
  lines-on codes i bytes h e =
      let x = decode f (get_or codes i 0) in
      let l = line_size_lem f d x in
      let n = ap length (lines_next codes i h) ∙ length-append (page_line f (page_line_of d x)) (page_lines f (coded_lines f d (drop (i + 1) codes))) in
      omega (arith, e, l, n)

  pub coded-parts : (codes : List ℕ) → coded_text f d codes ≡ head_line d (length codes) ++ page_lines f (coded_lines f d codes)
  unfolding coded_text
  coded-parts codes = refl

  pub length-coded : (codes : List ℕ) → length (coded_text f d codes) ≡ 16 + length (decimal (length codes)) + length (page_lines f (coded_lines f d codes))
  unfolding coded_text
  length-coded codes =
      length-append (head_line d (length codes)) (page_lines f (coded_lines f d codes)) ∙ rw (length_head d (length codes))

-- a page by its codes, as ordering leaves them
pub page_of-codes :
    (shows : DayFacts → Numbered → Bool) (f : List ℕ) (a : Ready) (r : ℕ) (codes : List ℕ)
    → ReadyBook f a → take r codes ≡ map code (page_of (shows a.facts) f) → page_text shows f a.facts ≡ coded_text f a.facts (take r codes)
unfolding page_text printed coded_text
page_of-codes shows f a r codes b e =
    let page = page_of (shows a.facts) f in
    let n : length (map (page_line_of a.facts) page) ≡ length (take r codes) = length-map page (page_line_of a.facts) ∙ sym (length-map page code) ∙ ap length (sym e) in
    rw (n, e, page-decoded f b.long b.size (shows a.facts))

member_equal : {xs ys : List ℕ} → xs ≡ ys → {y : ℕ} → Memᴰ y xs → Memᴰ y ys
member_equal e m = rw e at m

-- and they are those of records of the book
pub page_codes_of :
    (p : Numbered → Bool) (f : List ℕ) (a : Ready) (r : ℕ) (codes : List ℕ)
    → ReadyBook f a → take r codes ≡ map code (page_of p f) → CodesOf f (take r codes)
page_codes_of p f a r codes b e =
    record {
      each =
          λ i l.
          let m = Memᴰ.of_map code (page_of p f) (member_equal e (member_at (take r codes) i 0 l)) in
          let q : Placed f (places_of f) 0 m.0 = page-placed f b.long b.size p m.1 in
          let at = get_or (places_of f) q.index 0 in
          let n = count_most f b.long in
          let s = place_inside f b.long q.index q.inside in
          let c = ap code q.here ∙ code_at f (0 + q.index) at (omega (arith, q.inside, b.size, n)) (omega (arith, b.size, s)) in
          let z : place_in (get_or (take r codes) i 0) ≡ at = omega (arith, c, m.2, b.size, s) in
          rw z (record_there f b.long q.index q.inside);
    }
