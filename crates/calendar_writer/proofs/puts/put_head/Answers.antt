-- `put_head` meets its contract: three pieces, one behind the other.
use Rattle.std.proofs.Common.{List, length, ℕ, ◌++◌, ◌+◌, ◌≡◌, ◌≤◌}
use Rattle.prelude.specs.Splice.{splice}
use Rattle.prelude.proofs.Laws.Grown.{Grown, grown_start, grown-space, grown-last-fits, grown-more, grown-rest-equal, grown-last}
use Rattle.calendar.specs.File.{zeros, head_bytes}
use Rattle.calendar.specs.declared.types.CalendarSettings.{CalendarSettings}
use Rattle.calendar_writer.specs.Pieces.{head_mark, settings_words}
use Rattle.calendar_writer.proofs.Laws.Pieces.{head_pieces}
use Rattle.calendar_writer.proofs.puts.put_head.Goals as goal

-- before the first piece, and behind each of the first two, as `copy_in` leaves them
module _ {o : List ℕ} {at : ℕ} (s : CalendarSettings) (n : ℕ) (room : at + length (head_bytes s n) ≤ length o) where
  before : Grown o at (head_bytes s n) o at (head_mark n ++ (settings_words s ++ zeros 42))
  before = grown-rest-equal (head_pieces s n) (grown_start room)

  module _ {mark : List ℕ} (e : mark ≡ head_mark n) {o₁ : List ℕ} {second : ℕ} (next : second ≡ at + length mark) (put : o₁ ≡ splice o at mark) where
    behind-mark : Grown o at (head_bytes s n) o₁ second (settings_words s ++ zeros 42)
    behind-mark = grown-more (head_mark n) before (rw e at next) (rw e at put)

    behind-words :
        {words : List ℕ} → words ≡ settings_words s → {o₂ : List ℕ} {third : ℕ}
        → third ≡ second + length words → o₂ ≡ splice o₁ second words → Grown o at (head_bytes s n) o₂ third (zeros 42)
    behind-words e₂ next₂ put₂ = grown-more (settings_words s) behind-mark (rw e₂ at next₂) (rw e₂ at put₂)

pub copy_in-second-requires : goal.copy_in-second-requires
copy_in-second-requires c = rw c.head_mark-mark.ensures (grown-space (head_mark _) _ (before _ _ c.requires))

pub copy_in-third-requires : goal.copy_in-third-requires
copy_in-third-requires c =
    rw c.settings_words-words.ensures
    (grown-space (settings_words _) _ (behind-mark _ _ c.requires c.head_mark-mark.ensures c.copy_in-second.ensures.next c.copy_in-second.ensures.put))

pub put_zeros-requires : goal.put_zeros-requires
put_zeros-requires c =
    grown-last-fits
    (behind-words _ _ c.requires c.head_mark-mark.ensures c.copy_in-second.ensures.next c.copy_in-second.ensures.put c.settings_words-words.ensures c.copy_in-third.ensures.next c.copy_in-third.ensures.put)

pub returns : goal.returns
returns c =
    let g = behind-words _ _ c.requires c.head_mark-mark.ensures c.copy_in-second.ensures.next c.copy_in-second.ensures.put c.settings_words-words.ensures c.copy_in-third.ensures.next c.copy_in-third.ensures.put in
    let whole = grown-last (zeros 42) g c.put_zeros.ensures.next c.put_zeros.ensures.put in
    record { next = whole.0; put = whole.1 }
