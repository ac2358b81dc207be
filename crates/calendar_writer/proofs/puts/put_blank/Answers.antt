-- `put_blank` meets its contract: nothing, or the five words and zeros.
use Rattle.std.proofs.Common.{[], List, arith, length, sym, ℕ, ◌*◌, ◌++◌, ◌+◌, ◌-◌, ◌≡◌, ◌≤◌}
use Rattle.prelude.specs.Splice.{splice}
use Rattle.prelude.proofs.Laws.Grown.{Grown, grown_start, grown-space, grown-last-fits, grown-more, grown-rest-equal, grown-last}
use Rattle.prelude.proofs.Laws.Splice.{splice-nil}
use Rattle.calendar.specs.File.{zeros}
use Rattle.calendar_writer.specs.Sums.{bytes_in, units_for, block_head, row_of}
use Rattle.calendar_writer.proofs.Laws.Pieces.{blank_none, blank_some}
use Rattle.calendar_writer.proofs.puts.put_blank.Goals as goal

-- before the first piece, and behind it, as `copy_in` leaves it
module _ {o : List ℕ} {at : ℕ} (day : ℕ) {sum : ℕ} (some : sum ≡ 0 → ⊥) (room : at + length (row_of day sum []) ≤ length o) where
  before : Grown o at (row_of day sum []) o at (block_head day (bytes_in sum) ++ zeros (64 * units_for sum - 10))
  before = grown-rest-equal (blank_some day some) (grown_start room)

  behind-head :
      {n : ℕ} {head : List ℕ} → n ≡ bytes_in sum → head ≡ block_head day n → {o₁ : List ℕ} {second : ℕ}
      → second ≡ at + length head → o₁ ≡ splice o at head → Grown o at (row_of day sum []) o₁ second (zeros (64 * units_for sum - 10))
  behind-head b e next put = grown-more (block_head _ _) before (rw (e, b) at next) (rw (e, b) at put)

pub returns-then-sum-eq0 : goal.returns-then-sum-eq0
returns-then-sum-eq0 c = record { next = rw (blank_none c.args.day [] c.if-sum-eq0.true) (omega arith); put = rw (blank_none c.args.day [] c.if-sum-eq0.true) (sym (splice-nil c.args.out.now c.args.at)) }

pub copy_in-rest-requires : goal.copy_in-rest-requires
copy_in-rest-requires c = rw (c.block_head-head.ensures, c.bytes_in.ensures) (grown-space (block_head _ _) _ (before _ c.if-sum-eq0.false c.requires))

pub put_zeros-requires : goal.put_zeros-requires
put_zeros-requires c =
    rw c.units_for.ensures
    (grown-last-fits (behind-head _ c.if-sum-eq0.false c.requires c.bytes_in.ensures c.block_head-head.ensures c.copy_in-rest.ensures.next c.copy_in-rest.ensures.put))

pub returns : goal.returns
returns c =
    let g = behind-head _ c.if-sum-eq0.false c.requires c.bytes_in.ensures c.block_head-head.ensures c.copy_in-rest.ensures.next c.copy_in-rest.ensures.put in
    let whole = grown-last (zeros (64 * units_for c.args.sum - 10)) g (rw c.units_for.ensures at c.put_zeros.ensures.next) (rw c.units_for.ensures at c.put_zeros.ensures.put) in
    record { next = whole.0; put = whole.1 }
