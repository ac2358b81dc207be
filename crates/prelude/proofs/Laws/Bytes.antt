-- Laws of bytes and two-byte numbers by place: past the end, in parts and behind them, written and read back.
-- Assumes nothing.
use Rattle.std.specs.Prelude.{ℕ, zero, suc, ◌+◌, ◌*◌, ◌/◌, ◌%◌, ◌<◌, ◌≤◌, Bool, ◌≡◌, refl, List, [], ◌∷◌, ◌++◌, length, take, drop}
use Rattle.std.proofs.Common.{sym, ap, ◌∙◌, arith, add_assoc, add-one, take-append-drop, get_or-drop, get_or-append-add, drop-cons, drop-drop, take-take}
use Rattle.std.proofs.Math.ListN.{get_or-eq_default}
use Rattle.prelude.proofs.Laws.Choice.{b_elim}
use Rattle.prelude.specs.Bytes.{byte, word, word_high, part, bit, le16, be16, Bytes}

pub bit_most : (b : Bool) → bit b ≤ 1
unfolding bit
bit_most b = b_elim (λ n. n ≤ 1) b 1 0 (λ _. omega arith) (λ _. omega arith)

pub length-le16 : (n : ℕ) → length (le16 n) ≡ 2
unfolding le16
length-le16 n = refl

pub le16_bytes : (n : ℕ) → Bytes (le16 n)
unfolding le16
le16_bytes n = (omega arith, (omega arith, tt))

-- What was written is read back.
pub word-le16 : (n : ℕ) (r : List ℕ) → n < 65536 → word (le16 n ++ r) 0 ≡ n
unfolding le16
word-le16 n r h = omega arith

pub word_high-be16 : (n : ℕ) (r : List ℕ) → n < 65536 → word_high (be16 n ++ r) 0 ≡ n
unfolding be16
word_high-be16 n r h = omega arith

-- What was read is written again: the two bytes of a number that is made of two.
split : (n low high : ℕ) → n ≡ low + 256 * high → low < 256 → high < 256 → (n % 256 ≡ low) × (n / 256 % 256 ≡ high)
split n low high e h k = (omega arith, omega arith)

pub le16_join : (a b : ℕ) → a < 256 → b < 256 → le16 (a + 256 * b) ≡ a ∷ (b ∷ [])
unfolding le16
le16_join a b h k =
    let e = split (a + 256 * b) a b refl h k in
    cc

pub be16_join : (a b : ℕ) → a < 256 → b < 256 → be16 (256 * a + b) ≡ a ∷ (b ∷ [])
unfolding be16
be16_join a b h k =
    let e = split (256 * a + b) b a (omega arith) k h in
    cc

-- 0 past the end
pub byte_past : (s : List ℕ) (i : ℕ) → length s ≤ i → byte s i ≡ 0
byte_past s i h = get_or-eq_default s 0 h

pub word_past : (s : List ℕ) (i : ℕ) → length s ≤ i → (word s i ≡ 0) × (word_high s i ≡ 0)
word_past s i h =
    let e = byte_past s i h in
    let k = byte_past s (i + 1) (omega arith) in
    (omega arith, omega arith)

-- Along a list: in what is left of it from a on, and in the second of two.
pub byte-drop : (s : List ℕ) (a i : ℕ) → byte (drop a s) i ≡ byte s (a + i)
byte-drop s a i = get_or-drop a s i 0

pub byte_append : (xs ys : List ℕ) (i : ℕ) → byte (xs ++ ys) (length xs + i) ≡ byte ys i
byte_append xs ys i = get_or-append-add xs ys i 0

-- Where t stands in s from a on, so does what h makes of two bytes.
moved : (h : ℕ → ℕ → ℕ) (s t : List ℕ) (a : ℕ) → ((i : ℕ) → byte s (a + i) ≡ byte t i) → (i : ℕ) → h (byte s (a + i)) (byte s (a + i + 1)) ≡ h (byte t i) (byte t (i + 1))
moved h s t a e i = rw (add_assoc a i 1, e i, e (i + 1))

pub word-drop : (s : List ℕ) (a i : ℕ) → word (drop a s) i ≡ word s (a + i)
word-drop s a i = sym (moved (λ x y. x + 256 * y) s (drop a s) a (λ k. sym (byte-drop s a k)) i)

-- A part of a part.
drop-take : (i m n : ℕ) (s : List ℕ) → i + m ≤ n → take m (drop i (take n s)) ≡ take m (drop i s)
drop-take zero m n s h = take-take m n s (omega arith)
drop-take (suc i) m zero s h = absurd (omega arith)
drop-take (suc i) m (suc n) [] h = refl
drop-take (suc i) m (suc n) (x ∷ s) h = drop-take i m n s (omega arith)

pub part-part : (s : List ℕ) (a n i m : ℕ) → i + m ≤ n → part (part s a n) i m ≡ part s (a + i) m
part-part s a n i m h = drop-take i m n (drop a s) h ∙ ap (take m) (drop-drop i a s)

-- `Bytes`, by places and of two lists.
pub bytes_at : (s : List ℕ) → Bytes s → (i : ℕ) → byte s i < 256
bytes_at [] h i = omega arith
bytes_at (x ∷ xs) h zero = h.0
bytes_at (x ∷ xs) h (suc i) = bytes_at xs h.1 i

pub at_bytes : (s : List ℕ) → ((i : ℕ) → byte s i < 256) → Bytes s
at_bytes [] h = tt
at_bytes (x ∷ xs) h = (h zero, at_bytes xs (λ i. h (suc i)))

pub bytes_append : (xs ys : List ℕ) → Bytes xs → Bytes ys → Bytes (xs ++ ys)
bytes_append [] ys h k = k
bytes_append (x ∷ xs) ys h k = (h.0, bytes_append xs ys h.1 k)

-- The k bytes from i on, by place.
abbrev pub bytes_from : ℕ → ℕ → List ℕ → List ℕ
bytes_from i zero s = []
bytes_from i (suc k) s = byte s i ∷ bytes_from (i + 1) k s

pub part-places : (s : List ℕ) (i k : ℕ) → i + k ≤ length s → part s i k ≡ bytes_from i k s
part-places s i zero h = refl
part-places s i (suc k) h =
    let l : i < length s = omega arith in
    rw (drop-cons s i 0) (ap (λ (q : List ℕ). byte s i ∷ q) (rw (← add-one i) (part-places s (i + 1) k (omega arith))))

pub drop-places : (s : List ℕ) (i k : ℕ) → i + k ≤ length s → drop i s ≡ bytes_from i k s ++ drop (i + k) s
drop-places s i k h = sym (take-append-drop k (drop i s)) ∙ rw (part-places s i k h, drop-drop k i s)
