-- `is_calendar` meets its contract: 64 bytes are there, and the first eight are the mark.
use Rattle.std.proofs.Common.{arith, length, ℕ, ◌≤◌, ◌≡◌, Bool, ◌&&◌, eq-eqb, ne_eqb, false, List, [], ◌∷◌, sym, ◌∙◌, nat_eq}
use Rattle.std.specs.List.{starts_with}
use Rattle.std.proofs.lemmas.Bool.{lt-leb}
use Rattle.prelude.specs.Choice.{if_eq}
use Rattle.prelude.specs.Bytes.{byte}
use Rattle.prelude.proofs.Laws.Choice.{eq_elim, lt_yes, lt_no}
use Rattle.calendar.specs.Reader.{calendar_identified, calendar_mark}
use Rattle.calendar.proofs.head.is_calendar.Goals as goal

-- One byte of the mark.
mark_byte : (k b : ℕ) (t : Bool) → (nat_eq k b && t) ≡ if_eq b k t false
mark_byte k b t = eq_elim (λ z. (nat_eq k b && t) ≡ z) b k t false (λ e. rw (eq-eqb k b (sym e))) (λ n. rw (ne_eqb k b (λ e. n (sym e))))

mark-starts : (f : List ℕ) → 8 ≤ length f → starts_with nat_eq f (0xB5 ∷ 0xA2 ∷ 0xB0 ∷ 0xB3 ∷ 0xB3 ∷ 0xB0 ∷ 0xA2 ∷ 0xB5 ∷ []) ≡ calendar_mark (byte f 0) (byte f 1) (byte f 2) (byte f 3) (byte f 4) (byte f 5) (byte f 6) (byte f 7)
unfolding calendar_mark
mark-starts (a ∷ b ∷ c ∷ d ∷ e ∷ g ∷ h ∷ i ∷ f) l = simp mark_byte
mark-starts f l = absurd (omega arith)

pub returns-then-file-ge64 : goal.returns-then-file-ge64
unfolding calendar_identified
returns-then-file-ge64 c = lt_no _ _ _ (omega arith) (c.starts_with.ensures.value ∙ mark-starts c.args.file.now (omega arith))

pub returns-else-file-ge64 : goal.returns-else-file-ge64
unfolding calendar_identified
returns-else-file-ge64 c = lt_yes _ _ _ (omega arith) (lt-leb 64 _ c.if-file-ge64.false)
