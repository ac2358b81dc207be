-- The rule of a note as it is tested: its zeros counted, and from zero to zero among 40 bytes.
-- Assumes nothing.
use Rattle.std.specs.Prelude.{ℕ, zero, suc, ◌+◌, ◌-◌, ◌<◌, ◌≤◌, ◌≡◌, refl, true, false, List, [], ◌∷◌, leb, length, get_or, take, drop}
use Rattle.std.proofs.Common.{sym, ap, ◌∙◌, arith, add-one, leb-true, leb-false, le-leb, length-drop, drop_of_length-le, drop-cons, drop-drop, get_or-drop, length-take-le}
use Rattle.std.proofs.lemmas.Bool.{lt-leb}
use Rattle.prelude.proofs.Laws.Choice.{is_lt, is_ge, bool_cases}
use Rattle.prelude.specs.Bytes.{byte}
use Rattle.texts.specs.Notes.{in_front, lines_of, short_lines, note_ok, most_note, most_line, most_lines}
use Rattle.texts.specs.Lines.{to_zero}
use Rattle.texts.proofs.Laws.Notes.{zero_or_not, lines_nil, lines_zero, lines_other, to_zero-zero, to_zero_other, to_zero_le, first_line}
use Rattle.texts.specs.Invariants.{PastZero}

-- A zero ends the first line there at the latest; as long as there is none it goes on.
zero-within : (xs : List ℕ) (n : ℕ) → n < length xs → get_or xs n 0 ≡ 0 → to_zero xs ≤ n
zero-within [] n h z = absurd (omega arith)
zero-within (x ∷ xs) zero h z = rw (to_zero-zero x xs z) (omega arith)
zero-within (x ∷ xs) (suc n) h z =
    zero_or_not x (λ e. rw (to_zero-zero x xs e) (omega arith))
    (λ e. rw (to_zero_other x xs e) (let l = zero-within xs n (omega arith) z in omega arith))

zero_beyond : (xs : List ℕ) (n : ℕ) → n ≤ length xs → ((k : ℕ) → k < n → get_or xs k 0 ≡ 0 → ⊥) → n ≤ to_zero xs
zero_beyond xs zero h f = omega arith
zero_beyond [] (suc n) h f = absurd (omega arith)
zero_beyond (x ∷ xs) (suc n) h f =
    rw (to_zero_other x xs (f 0 (omega arith))) (let l = zero_beyond xs n (omega arith) (λ k m. f (suc k) (omega arith)) in omega arith)

-- A byte in front leaves the rule of the lines as it is: a zero always, another byte where the first line stays short.
short_zero : (x : ℕ) (xs : List ℕ) → x ≡ 0 → short_lines (lines_of (x ∷ xs)) ≡ short_lines (lines_of xs)
unfolding short_lines
short_zero x xs z = rw (lines_zero x xs z) (let a : 0 ≤ most_line = omega arith in is_ge a _ _)

short_front : (x : ℕ) (l : List ℕ) (ls : List (List ℕ)) → length l < most_line → short_lines (in_front x (l ∷ ls)) ≡ short_lines (l ∷ ls)
unfolding short_lines
short_front x l ls h =
    let a : suc (length l) ≤ most_line = omega arith in
    let b : length l ≤ most_line = omega arith in
    is_ge a _ _ ∙ sym (is_ge b _ _)

short_one : (x : ℕ) → short_lines (in_front x []) ≡ short_lines []
unfolding short_lines
short_one x = let a : 1 ≤ most_line = omega arith in is_ge a _ _

short_other : (x : ℕ) (xs : List ℕ) → (x ≡ 0 → ⊥) → to_zero xs < most_line → short_lines (lines_of (x ∷ xs)) ≡ short_lines (lines_of xs)
short_other x [] n h = rw (lines_other x [] n, lines_nil) (short_one x)
short_other x (y ∷ ys) n h =
    let l = to_zero_le (y ∷ ys) in
    let e = length-take-le (to_zero (y ∷ ys)) (y ∷ ys) l in
    let m : length (take (to_zero (y ∷ ys)) (y ∷ ys)) < most_line = rw e h in
    rw (lines_other x (y ∷ ys) n, first_line (y ∷ ys) (omega arith)) (short_front x (take (to_zero (y ∷ ys)) (y ∷ ys)) _ m)

-- Up to a zero among the first 40 bytes all lines are short; so are all lines of 39 bytes; a line that goes on for 40 is not.
pub short_past : (xs : List ℕ) (n : ℕ) → n < 40 → n < length xs → get_or xs n 0 ≡ 0 → short_lines (lines_of xs) ≡ short_lines (lines_of (drop (suc n) xs))
short_past [] n m h z = absurd (omega arith)
short_past (x ∷ xs) zero m h z = short_zero x xs z
short_past (x ∷ xs) (suc n) m h z =
    zero_or_not x (λ e. short_zero x xs e) (λ e. short_other x xs e (let l = zero-within xs n (omega arith) z in omega arith))
    ∙ short_past xs n (omega arith) (omega arith) z

short_all : (xs : List ℕ) → length xs ≤ most_line → short_lines (lines_of xs) ≡ true
unfolding short_lines
short_all [] h = rw lines_nil refl
short_all (x ∷ xs) h =
    zero_or_not x (λ e. short_zero x xs e) (λ e. short_other x xs e (let l = to_zero_le xs in omega arith))
    ∙ short_all xs (omega arith)

short_over : (xs : List ℕ) → most_line < to_zero xs → short_lines (lines_of xs) ≡ false
unfolding short_lines
short_over xs h =
    let l = to_zero_le xs in
    let e = length-take-le (to_zero xs) xs l in
    rw (first_line xs (omega arith)) (is_lt (rw e h) _ _)

-- The lines from `start` on are short where those from such a place on are, and not where there is none.
module _ {s : List ℕ} {start p : ℕ} (h : start + most_line < length s) (e : PastZero s start p) where
  pub short-jump : (p ≡ start → ⊥) → short_lines (lines_of (drop start s)) ≡ short_lines (lines_of (drop p s))
  short-jump n =
      let d = length-drop start s in
      let a : start + (p - 1 - start) ≡ p - 1 = omega (arith, e.low) in
      let b : start + suc (p - 1 - start) ≡ p = omega (arith, e.low) in
      let z : get_or (drop start s) (p - 1 - start) 0 ≡ 0 = get_or-drop start s (p - 1 - start) 0 ∙ rw a (e.zero (omega (arith, e.low))) in
      short_past (drop start s) (p - 1 - start) (omega (arith, e.high)) (omega (arith, e.high)) z
      ∙ rw (drop-drop (suc (p - 1 - start)) start s, b)

  pub short-never : p ≡ start → short_lines (lines_of (drop start s)) ≡ false
  short-never q =
      let d = length-drop start s in
      short_over (drop start s)
      (zero_beyond (drop start s) 40 (omega arith) (λ k m z. e.none (start + k) (omega arith) (omega arith) (sym (get_or-drop start s k 0) ∙ z)))

pub short_end : (s : List ℕ) (start : ℕ) → length s ≤ start + most_line → short_lines (lines_of (drop start s)) ≡ true
short_end s start h = let d = length-drop start s in short_all (drop start s) (omega arith)

-- The number of lines: one byte on, and at the last byte.
front_same : (x : ℕ) (xs : List ℕ) → 0 < length xs → length (in_front x (lines_of xs)) ≡ length (lines_of xs)
front_same x xs h = rw (first_line xs h)

pub count_zero : (s : List ℕ) (i : ℕ) → i < length s → byte s i ≡ 0 → length (lines_of (drop i s)) ≡ suc (length (lines_of (drop (i + 1) s)))
count_zero s i h z = rw (drop-cons s i 0 h, add-one i) (ap length (lines_zero _ _ z))

pub count_other : (s : List ℕ) (i : ℕ) → i + 1 < length s → (byte s i ≡ 0 → ⊥) → length (lines_of (drop i s)) ≡ length (lines_of (drop (i + 1) s))
count_other s i h n =
    let l : i < length s = omega arith in
    let d = length-drop (suc i) s in
    rw (drop-cons s i 0 l, add-one i) (ap length (lines_other _ _ n) ∙ front_same _ _ (omega arith))

count_one : (x : ℕ) → length (lines_of (x ∷ [])) ≡ 1
count_one x = zero_or_not x (λ z. ap length (lines_zero x [] z) ∙ rw lines_nil) (λ n. ap length (lines_other x [] n) ∙ rw lines_nil)

pub count_last : (s : List ℕ) (i : ℕ) → i + 1 ≡ length s → length (lines_of (drop i s)) ≡ 1
count_last s i h =
    let l : i < length s = omega arith in
    let m : length s ≤ suc i = omega arith in
    rw (drop-cons s i 0 l, drop_of_length-le s m) (count_one (byte s i))

-- There are no more lines than bytes.
count_le : (xs : List ℕ) → length (lines_of xs) ≤ length xs
count_le [] = rw lines_nil (omega arith)
count_le (x ∷ []) = rw (count_one x) (omega arith)
count_le (x ∷ (y ∷ ys)) =
    let l = count_le (y ∷ ys) in
    zero_or_not x (λ z. rw (lines_zero x (y ∷ ys) z) (omega arith))
    (λ n. rw (lines_other x (y ∷ ys) n, front_same x (y ∷ ys) (omega arith)) (omega arith))

-- Two comparisons that hold and fail together.
pub leb_same : {a b c d : ℕ} → (a ≤ b → c ≤ d) → (b < a → d < c) → leb a b ≡ leb c d
leb_same {a} {b} {c} {d} f g =
    bool_cases (leb a b) (λ t. t ∙ sym (le-leb c d (f (leb-true a b t)))) (λ t. t ∙ sym (lt-leb c d (g (leb-false a b t))))

-- The rule of a note by these.
pub note_long : (n : List ℕ) → most_note < length n → note_ok n ≡ false
unfolding note_ok
note_long n h = is_lt h _ _

pub note_many : (n : List ℕ) → length n ≤ most_note → leb (length (lines_of n)) most_lines ≡ false → note_ok n ≡ false
unfolding note_ok
note_many n h e = is_ge h _ _ ∙ is_lt (leb-false _ _ e) _ _

pub note_few : (n : List ℕ) → length n ≤ most_note → leb (length (lines_of n)) most_lines ≡ true → note_ok n ≡ short_lines (lines_of n)
unfolding note_ok
note_few n h e = is_ge h _ _ ∙ is_ge (leb-true _ _ e) _ _

pub note_short : (n : List ℕ) → length n ≤ most_lines → note_ok n ≡ true
note_short n h =
    let l = count_le n in
    note_few n (omega arith) (le-leb (length (lines_of n)) most_lines (omega arith)) ∙ short_all n (omega arith)
