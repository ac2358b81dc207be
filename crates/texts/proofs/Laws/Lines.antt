-- The laws of where the lines of a note lie: `line_start` and `line_length` give line k, and what is read byte by byte comes to them.
-- Assumes nothing.
use Rattle.std.specs.Prelude.{ℕ, zero, suc, ◌+◌, ◌-◌, ◌<◌, ◌≤◌, ◌≡◌, refl, List, [], ◌∷◌, length, get_or, drop}
use Rattle.std.proofs.Common.{ap, ◌∙◌, arith, add-one, length-drop, drop_of_length-le, drop-cons, length-take-le}
use Rattle.std.proofs.Math.Seq.{take-nil}
use Rattle.prelude.proofs.Laws.Choice.{is_eq, is_ne, lt_elim}
use Rattle.prelude.specs.Bytes.{byte, part}
use Rattle.texts.specs.Notes.{in_front, lines_of}
use Rattle.texts.specs.Lines.{to_zero, line_start, line_length}
use Rattle.texts.proofs.Laws.Notes.{zero_or_not, lines_nil, lines_zero, lines_other, to_zero-zero, to_zero_other, to_zero_le, first_line}

-- `line_start` of nothing, where a zero comes first, where another byte does, and of line 0.
start_nil : (k : ℕ) → line_start [] k ≡ 0
unfolding line_start
start_nil k = refl

start_zero : (x : ℕ) (xs : List ℕ) (k : ℕ) → x ≡ 0 → line_start (x ∷ xs) (suc k) ≡ suc (line_start xs k)
unfolding line_start
start_zero x xs k z = ap suc (is_eq z _ _)

start_other : (x : ℕ) (xs : List ℕ) (k : ℕ) → (x ≡ 0 → ⊥) → line_start (x ∷ xs) (suc k) ≡ suc (line_start xs (suc k))
unfolding line_start
start_other x xs k n = ap suc (is_ne n _ _)

pub start_first : (xs : List ℕ) → line_start xs 0 ≡ 0
unfolding line_start
start_first [] = refl
start_first (x ∷ xs) = refl

-- Line k, seen from place i.
pub start_here_zero : (s : List ℕ) (i k : ℕ) → i < length s → 0 < k → byte s i ≡ 0 → line_start (drop i s) k ≡ suc (line_start (drop (i + 1) s) (k - 1))
start_here_zero s i zero h l z = absurd (omega arith)
start_here_zero s i (suc k) h l z =
    let e : suc k - 1 ≡ k = omega arith in
    rw (drop-cons s i 0 h, add-one i, e) (start_zero _ _ k z)

pub start_here_other : (s : List ℕ) (i k : ℕ) → i < length s → 0 < k → (byte s i ≡ 0 → ⊥) → line_start (drop i s) k ≡ suc (line_start (drop (i + 1) s) k)
start_here_other s i zero h l n = absurd (omega arith)
start_here_other s i (suc k) h l n = rw (drop-cons s i 0 h, add-one i) (start_other _ _ k n)

pub start_end : (s : List ℕ) (i k : ℕ) → length s ≤ i → line_start (drop i s) k ≡ 0
start_end s i k h = rw (drop_of_length-le s h) (start_nil k)

-- A byte in front of the lines is in the first of them: the others stay.
in_front-later : (x : ℕ) (ls : List (List ℕ)) (k : ℕ) → get_or (in_front x ls) (suc k) [] ≡ get_or ls (suc k) []
in_front-later x [] k = refl
in_front-later x (l ∷ ls) k = refl

in_front_count : (x : ℕ) (ls : List (List ℕ)) → length (in_front x ls) - 1 ≡ length ls - 1
in_front_count x [] = refl
in_front_count x (l ∷ ls) = refl

count_zero : (x : ℕ) (xs : List ℕ) → x ≡ 0 → length (lines_of (x ∷ xs)) ≡ suc (length (lines_of xs))
count_zero x xs z = ap length (lines_zero x xs z)

count_other : (x : ℕ) (xs : List ℕ) → (x ≡ 0 → ⊥) → length (lines_of (x ∷ xs)) - 1 ≡ length (lines_of xs) - 1
count_other x xs n = rw (lines_other x xs n) (in_front_count x (lines_of xs))

-- The stretch from `line_start` on, `line_length` bytes long, is line k of the note; it is empty where there is no line k.
pub line_is : (n : List ℕ) (k : ℕ) → part n (line_start n k) (line_length n k) ≡ get_or (lines_of n) k []
line_is [] k = rw (start_nil k, lines_nil) (take-nil (to_zero []))
line_is (x ∷ xs) zero = rw (start_first (x ∷ xs), first_line (x ∷ xs) (omega arith))
line_is (x ∷ xs) (suc k) =
    zero_or_not x (λ z. rw (start_zero x xs k z, lines_zero x xs z) (line_is xs k))
    (λ n. rw (start_other x xs k n, lines_other x xs n, in_front-later x (lines_of xs) k) (line_is xs (suc k)))

-- There is a line k just where its stretch begins before the end.
pub line_there : (n : List ℕ) (k : ℕ) → k < length (lines_of n) → line_start n k < length n
line_there [] k h = absurd (omega (arith, rw lines_nil at h))
line_there (x ∷ xs) zero h = rw (start_first (x ∷ xs)) (omega arith)
line_there (x ∷ xs) (suc k) h =
    zero_or_not x
    (λ z. rw (start_zero x xs k z) (let l = line_there xs k (omega (arith, count_zero x xs z)) in omega arith))
    (λ n. rw (start_other x xs k n) (let l = line_there xs (suc k) (omega (arith, count_other x xs n)) in omega arith))

pub no_line : (n : List ℕ) (k : ℕ) → length (lines_of n) ≤ k → line_start n k ≡ length n
no_line [] k h = start_nil k
no_line (x ∷ xs) zero h = absurd (omega (arith, rw (first_line (x ∷ xs) (omega arith)) at h))
no_line (x ∷ xs) (suc k) h =
    zero_or_not x
    (λ z. start_zero x xs k z ∙ ap suc (no_line xs k (omega (arith, count_zero x xs z))))
    (λ n. start_other x xs k n ∙ ap suc (no_line xs (suc k) (omega (arith, count_other x xs n))))

-- Line k + 1 begins behind the zero that ends line k.
pub line_next : (n : List ℕ) (k : ℕ) → suc k < length (lines_of n) → line_start n (suc k) ≡ line_start n k + line_length n k + 1
line_next [] k h = absurd (omega (arith, rw lines_nil at h))
line_next (x ∷ xs) zero h =
    zero_or_not x
    (λ z. rw (start_zero x xs 0 z, start_first xs, start_first (x ∷ xs), to_zero-zero x xs z))
    (λ n. rw (start_other x xs 0 n, start_first (x ∷ xs), to_zero_other x xs n)
    (omega (arith, rw (start_first xs) at (line_next xs 0 (omega (arith, count_other x xs n))))))
line_next (x ∷ xs) (suc k) h =
    zero_or_not x
    (λ z. rw (start_zero x xs (suc k) z, start_zero x xs k z)
    (omega (arith, line_next xs k (omega (arith, count_zero x xs z)))))
    (λ n. rw (start_other x xs (suc k) n, start_other x xs k n)
    (omega (arith, line_next xs (suc k) (omega (arith, count_other x xs n)))))

-- The stretch lies inside the note.
pub line_inside : (n : List ℕ) (k : ℕ) → line_start n k + line_length n k ≤ length n
line_inside n k =
    let l = to_zero_le (drop (line_start n k) n) in
    let d = length-drop (line_start n k) n in
    lt_elim {X = Unit {0}} (λ _. line_start n k + line_length n k ≤ length n) k (length (lines_of n)) tt tt
    (λ h. omega (arith, line_there n k h)) (λ h. omega (arith, no_line n k h))

pub line_size_lem : (n : List ℕ) (k : ℕ) → length (get_or (lines_of n) k []) ≡ line_length n k
line_size_lem n k =
    let l = line_inside n k in
    let d = length-drop (line_start n k) n in
    rw (← line_is n k) (length-take-le (line_length n k) (drop (line_start n k) n) (omega arith))
