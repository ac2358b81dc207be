-- Writes one behind the other, for `grind`: two are one of both texts, and none changes the buffer's length.
-- Assumes nothing.
use Rattle.std.specs.Prelude.{ℕ, ◌+◌, ◌≤◌, ◌≡◌, List, [], ◌++◌, length}
use Rattle.std.proofs.Common.{append_assoc, length-append}
use Rattle.prelude.specs.Splice.{splice}
use Rattle.prelude.proofs.Laws.Splice.{length-splice, splice-nil, splice-splice}

pub splice_on : (d : List ℕ) (at : ℕ) (a b : List ℕ) (k : ℕ) → at ≤ length d → k ≡ at + length a → splice (splice d at a) k b ≡ splice d at (a ++ b)
splice_on d at a b k h e = rw e (splice-splice d at a b h)

pub length_put : (d : List ℕ) (at : ℕ) (a : List ℕ) → at + length a ≤ length d → length (splice d at a) ≡ length d
length_put d at a h = length-splice d at a h

pub length_both : (a b : List ℕ) → length (a ++ b) ≡ length a + length b
length_both a b = length-append a b

pub regrouped : (a b c : List ℕ) → (a ++ b) ++ c ≡ a ++ (b ++ c)
regrouped a b c = append_assoc a b c

pub put_nothing : (d : List ℕ) (at : ℕ) → splice d at [] ≡ d
put_nothing d at = splice-nil d at

pub ruleset puts = (splice_on, put_nothing, length_put, length_both, regrouped)
