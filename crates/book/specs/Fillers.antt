-- Bytes after the end record, document 02, request R-1: "Files from a modem come in blocks of 128, filled up with 1Ah."
-- Assumes nothing.
use Rattle.std.specs.Prelude.{Ok, Err, ℕ, zero, suc, ◌+◌, ◌-◌, ◌≤◌, ◌≡◌, List, ◌++◌, length, take, replicate}
use Rattle.prelude.specs.Choice.{if_lt, if_eq}
use Rattle.prelude.specs.Bytes.{byte}
use Rattle.prelude.specs.Refusals.{after_end, refusal_at}
use Rattle.book.specs.Walk.{Walk, more, ended, stopped, walk_of}
use Rattle.prelude.specs.Verdicts.{Verdict}

-- "filled up with 1Ah"
abbrev pub filler : ℕ
filler = 0x1A

-- "0 to 127 bytes"
abbrev pub most_fillers : ℕ
most_fillers = 127

-- of the k bytes from p on, "all 1Ah", else 9 names "the first that isn't 1Ah"
unfoldable pub fillers_from : ℕ → List ℕ → ℕ → Verdict
fillers_from zero f p = Ok tt
fillers_from (suc k) f p = if_eq (byte f p) filler (fillers_from k f (p + 1)) (Err (refusal_at after_end p))

-- "9 names the first byte after the end record when there are more than 127, else the first that isn't 1Ah"; the end record ends at e
unfoldable pub after_end_record : List ℕ → ℕ → Verdict
after_end_record f e =
    if_lt most_fillers (length f - e) (Err (refusal_at after_end e)) (fillers_from (length f - e) f e)

-- the place behind the end record that a walk meets; 0 where it meets none
unfoldable pub end_in : Walk → ℕ
end_in (more at w) = end_in w
end_in (ended e) = e
end_in (stopped r) = 0

-- how many bytes come after the end record
unfoldable pub fillers_of : List ℕ → ℕ
fillers_of f = length f - end_in (walk_of f)

-- the book without them
unfoldable pub unfilled : List ℕ → List ℕ
unfilled f = take (end_in (walk_of f)) f

-- "Accept 0 to 127 bytes, all 1Ah, after the end record": a book that ends with its end record, and such bytes
pub record Filled (f : List ℕ) : Type 0 where
  pub whole : f ≡ unfilled f ++ replicate (fillers_of f) filler
  pub most : fillers_of f ≤ most_fillers
