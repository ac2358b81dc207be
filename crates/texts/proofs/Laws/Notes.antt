-- The laws of text and note as they are read byte by byte: how a line ends, and what is left behind it.
-- Assumes nothing.
use Rattle.std.specs.Prelude.{ℕ, zero, suc, ◌+◌, ◌-◌, ◌<◌, ◌≤◌, ◌≡◌, refl, true, false, List, [], ◌∷◌, length, take, drop}
use Rattle.std.specs.List.{list_any}
use Rattle.std.proofs.Common.{not, eqb, eq-eqb, ne_eqb, take_all, sym, ap, ◌∙◌, arith, add-one, length-drop, drop_of_length-le, drop-cons, drop-drop}
use Rattle.prelude.proofs.Laws.Choice.{is_eq, is_ne, eq_elim}
use Rattle.prelude.specs.Bytes.{byte, part}
use Rattle.texts.specs.Notes.{no_zero, in_front, lines_of}
use Rattle.texts.specs.Lines.{to_zero}

-- A byte is zero or it is not.
pub zero_or_not : {P : Type 0} (x : ℕ) → (x ≡ 0 → P) → ((x ≡ 0 → ⊥) → P) → P
zero_or_not {P} x f g = eq_elim {X = Unit {0}} (λ _. P) x 0 tt tt f g

-- The lines, and the way to the first zero: of nothing, where a zero comes first, where another byte does.
pub lines_nil : lines_of [] ≡ []
unfolding lines_of
lines_nil = refl

pub lines_zero : (x : ℕ) (xs : List ℕ) → x ≡ 0 → lines_of (x ∷ xs) ≡ [] ∷ lines_of xs
unfolding lines_of
lines_zero x xs z = is_eq z _ _

pub lines_other : (x : ℕ) (xs : List ℕ) → (x ≡ 0 → ⊥) → lines_of (x ∷ xs) ≡ in_front x (lines_of xs)
unfolding lines_of
lines_other x xs n = is_ne n _ _

pub to_zero_nil : to_zero [] ≡ 0
unfolding to_zero
to_zero_nil = refl

pub to_zero-zero : (x : ℕ) (xs : List ℕ) → x ≡ 0 → to_zero (x ∷ xs) ≡ 0
unfolding to_zero
to_zero-zero x xs z = is_eq z _ _

pub to_zero_other : (x : ℕ) (xs : List ℕ) → (x ≡ 0 → ⊥) → to_zero (x ∷ xs) ≡ suc (to_zero xs)
unfolding to_zero
to_zero_other x xs n = is_ne n _ _

pub to_zero_le : (xs : List ℕ) → to_zero xs ≤ length xs
to_zero_le [] = rw to_zero_nil (omega arith)
to_zero_le (x ∷ xs) =
    zero_or_not x (λ z. rw (to_zero-zero x xs z) (omega arith)) (λ n. rw (to_zero_other x xs n) (let l = to_zero_le xs in omega arith))

-- Among the first n bytes stands the first zero, or it stands behind them.
pub to_zero_early : (n : ℕ) (xs : List ℕ) → to_zero (take n xs) < n → to_zero xs ≡ to_zero (take n xs)
to_zero_early zero xs h = absurd (omega arith)
to_zero_early (suc n) [] h = refl
to_zero_early (suc n) (x ∷ xs) h =
    zero_or_not x (λ z. to_zero-zero x xs z ∙ sym (to_zero-zero x (take n xs) z))
    (λ m.
    let e = to_zero_other x (take n xs) m in
    to_zero_other x xs m ∙ ap suc (to_zero_early n xs (omega arith)) ∙ sym e)

pub to_zero_later : (n : ℕ) (xs : List ℕ) → to_zero (take n xs) ≡ n → to_zero xs ≡ n + to_zero (drop n xs)
to_zero_later zero xs h = omega arith
to_zero_later (suc n) [] h = absurd (omega (arith, to_zero_nil))
to_zero_later (suc n) (x ∷ xs) h =
    zero_or_not x (λ z. absurd (omega (arith, to_zero-zero x (take n xs) z)))
    (λ m.
    let e = to_zero_other x (take n xs) m in
    let l = to_zero_later n xs (omega arith) in
    to_zero_other x xs m ∙ omega arith)

-- The first line is what stands before the first zero, and the others are the lines of what stands behind it.
pub first_line : (xs : List ℕ) → 0 < length xs → lines_of xs ≡ take (to_zero xs) xs ∷ lines_of (drop (suc (to_zero xs)) xs)
first_line [] h = absurd (omega arith)
first_line (x ∷ []) h =
    zero_or_not x (λ z. rw (lines_zero x [] z, to_zero-zero x [] z))
    (λ n. rw (lines_other x [] n, to_zero_other x [] n, to_zero_nil, lines_nil))
first_line (x ∷ (y ∷ ys)) h =
    zero_or_not x (λ z. rw (lines_zero x (y ∷ ys) z, to_zero-zero x (y ∷ ys) z))
    (λ n. rw (lines_other x (y ∷ ys) n, to_zero_other x (y ∷ ys) n, first_line (y ∷ ys) (omega arith)))

-- No zero stands from start up to i: the line that begins at start has not ended before i.
pub record WithinNote (s : List ℕ) (start i : ℕ) : Type 0 where
  pub order : start ≤ i
  pub same : to_zero (drop start s) ≡ (i - start) + to_zero (drop i s)

pub within_start : (s : List ℕ) (start : ℕ) → WithinNote s start start
within_start s start = record { order = omega arith; same = omega arith }

-- The byte at i, or the end.
pub zero_here : (s : List ℕ) (i : ℕ) → i < length s → byte s i ≡ 0 → to_zero (drop i s) ≡ 0
zero_here s i h z = rw (drop-cons s i 0 h) (to_zero-zero _ _ z)

pub to_zero_past_end : (s : List ℕ) (i : ℕ) → length s ≤ i → to_zero (drop i s) ≡ 0
to_zero_past_end s i h = rw (drop_of_length-le s h) to_zero_nil

pub within_next : {s : List ℕ} {start i : ℕ} → WithinNote s start i → i < length s → (byte s i ≡ 0 → ⊥) → WithinNote s start (i + 1)
within_next {s} {start} {i} w h n =
    let e : to_zero (drop i s) ≡ suc (to_zero (drop (i + 1) s)) = rw (drop-cons s i 0 h, add-one i) (to_zero_other _ _ n) in
    record { order = omega arith; same = omega arith }

-- One byte on, to a place that is named.
pub within-next_place : {s : List ℕ} {start i : ℕ} (j : ℕ) → j ≡ i + 1 → WithinNote s start i → i < length s → (byte s i ≡ 0 → ⊥) → WithinNote s start j
within-next_place j e w h n = rw e (within_next w h n)

-- The line ends at i, by a zero or with the note.
pub within-zero : {s : List ℕ} {start i : ℕ} → WithinNote s start i → i < length s → byte s i ≡ 0 → to_zero (drop start s) ≡ i - start
within-zero {s} {start} {i} w h z = let e = zero_here s i h z in omega (arith, w.same)

pub within_end : {s : List ℕ} {start i : ℕ} → WithinNote s start i → length s ≤ i → to_zero (drop start s) ≡ i - start
within_end {s} {start} {i} w h = let e = to_zero_past_end s i h in omega (arith, w.same)

-- A line of n bytes begins at start.
pub record Line (s : List ℕ) (start n : ℕ) : Type 0 where
  pub begun : start < length s
  pub all : n ≡ to_zero (drop start s)

-- counted in the slice from there on
pub line_here : (s : List ℕ) (start : ℕ) {n : ℕ} → start < length s → n ≡ to_zero (take (length s - start) (drop start s)) → Line s start n
line_here s start h e =
    record { begun = h; all = e ∙ ap to_zero (take_all (length s - start) (drop start s) (omega (arith, length-drop start s))) }

module _ {s : List ℕ} {start n : ℕ} (e : Line s start n) where
  pub line-fits : start + n ≤ length s
  line-fits = omega (arith, to_zero_le (drop start s), length-drop start s)

  line-ends : lines_of (drop start s) ≡ part s start n ∷ lines_of (drop (start + n + 1) s)
  line-ends =
      let m : start + suc n ≡ start + n + 1 = omega arith in
      first_line (drop start s) (rw (length-drop start s) (omega arith)) ∙ rw (← e.all, drop-drop (suc n) start s, m)

  pub count_next : length (lines_of (drop start s)) ≡ suc (length (lines_of (drop (start + n + 1) s)))
  count_next = ap length line-ends

pub lines_end : (s : List ℕ) (i : ℕ) → length s ≤ i → lines_of (drop i s) ≡ []
lines_end s i h = rw (drop_of_length-le s h) lines_nil

-- A text, as the library looks for a zero in it.
pub no_zero-any : (s : List ℕ) → not (list_any (λ y. eqb y 0) s) ≡ no_zero s
unfolding no_zero
no_zero-any [] = refl
no_zero-any (x ∷ xs) =
    zero_or_not x (λ z. simp (eq-eqb x 0 z) (sym (is_eq z _ _))) (λ n. simp (ne_eqb x 0 n) (no_zero-any xs ∙ sym (is_ne n _ _)))

-- A text, from place i on.
pub clean_zero : (s : List ℕ) (i : ℕ) → i < length s → byte s i ≡ 0 → no_zero (drop i s) ≡ false
unfolding no_zero
clean_zero s i h z = rw (drop-cons s i 0 h) (is_eq z _ _)

pub clean_other : (s : List ℕ) (i : ℕ) → i < length s → (byte s i ≡ 0 → ⊥) → no_zero (drop i s) ≡ no_zero (drop (i + 1) s)
unfolding no_zero
clean_other s i h n = rw (drop-cons s i 0 h, add-one i) (is_ne n _ _)

pub clean_end : (s : List ℕ) (i : ℕ) → length s ≤ i → no_zero (drop i s) ≡ true
unfolding no_zero
clean_end s i h = rw (drop_of_length-le s h)
