-- Laws of codes: what a code holds, and that ordering codes by their minute orders the records.
-- Assumes nothing.
use Rattle.std.specs.Prelude.{ℕ, ◌+◌, ◌%◌, ◌<◌, ◌≤◌, ◌≡◌, Bool, List, [], ◌∷◌, ◌++◌, map, length, take, drop, set}
use Rattle.std.proofs.Common.{sym, ◌∙◌, ap, append_assoc, append-nil, arith, add-one, take-suc-set, take_at, drop_at, drop-drop, drop-set-lt, length-take-le}
use Rattle.sorting.specs.Keep.{keep}
use Rattle.sorting.specs.Order.{sort}
use Rattle.sorting.proofs.Laws.Order.{length-sort, map-sort}
use Rattle.sorting.specs.Codes.{minute_in}
use Rattle.book.specs.Books.{entry_at}
use Rattle.falls.specs.Times.{times_of}
use Rattle.pages.specs.Pages.{Numbered, numbered, start_of, page_of}
use Rattle.pages.specs.Codes.{code_with, code}
use Rattle.pages.specs.Invariants.{record_at}

-- the code of the record at a place
pub code_at : (f : List ℕ) (n at : ℕ) → n < 65536 → at < 65536 → code (record_at f n at) ≡ code_with (times_of (entry_at f at).«record»).start.0 n at
unfolding code entry_at
code_at f n at h k =
    let a : n % 65536 ≡ n = omega arith in
    let b : at % 65536 ≡ at = omega arith in
    rw (a, b)

-- a code's upper part is the start minute
pub key_code : (x : Numbered) → minute_in (code x) ≡ start_of x
unfolding code
key_code x = omega arith

-- ordering the codes orders the records
pub page_codes : (p : Numbered → Bool) (f : List ℕ) → map code (page_of p f) ≡ sort minute_in (map code (keep p (numbered f)))
unfolding page_of
page_codes p f = map-sort start_of minute_in code key_code (keep p (numbered f))

-- one code more
pub codes_push : (codes : List ℕ) (count v : ℕ) (whole left : List ℕ) → count < length codes → whole ≡ take count codes ++ (v ∷ left) → whole ≡ take (count + 1) (set codes count v) ++ left
codes_push codes count v whole left h e =
    e ∙ rw (add-one count, take-suc-set codes count v h, append_assoc)

-- and those behind stay
pub codes_behind : (codes old : List ℕ) (count v : ℕ) → drop count codes ≡ drop count old → drop (count + 1) (set codes count v) ≡ drop (count + 1) old
codes_behind codes old count v e =
    drop-set-lt (count + 1) codes count v (omega arith) ∙ sym (drop-drop 1 count codes) ∙ ap (drop 1) e ∙ drop-drop 1 count old

pub append_nil_whole : (codes whole : List ℕ) {left : List ℕ} → whole ≡ codes ++ left → left ≡ [] → codes ≡ whole
append_nil_whole codes whole e z = sym (e ∙ ap (λ (l : List ℕ). codes ++ l) z ∙ append-nil codes)

-- once the first n codes are ordered: what stands in front, and what behind
module _ (x : List ℕ) (n : ℕ) {y : List ℕ} (h : n ≤ length x) (e : y ≡ sort minute_in (take n x) ++ drop n x) where
  long : length (sort minute_in (take n x)) ≡ n
  long = length-sort minute_in (take n x) ∙ length-take-le n x h

  pub ordered-front : take n y ≡ sort minute_in (take n x)
  ordered-front = ap (take n) e ∙ take_at (sort minute_in (take n x)) (drop n x) n long

  pub ordered-behind : drop n y ≡ drop n x
  ordered-behind = ap (drop n) e ∙ drop_at (sort minute_in (take n x)) (drop n x) n long
