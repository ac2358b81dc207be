-- The table and the day blocks as they are written are read back: every day with its appointments, and none else.
-- Assumes nothing.
use Rattle.std.specs.Prelude.{Ok, ℕ, ◌+◌, ◌*◌, ◌≤◌, ◌≡◌, refl, List, [], ◌∷◌, ◌++◌, map, length}
use Rattle.std.proofs.Common.{sym, ◌∙◌, append_assoc, arith}
use Rattle.prelude.specs.Choice.{if_eq}
use Rattle.prelude.proofs.Laws.Choice.{is_eq, is_ne, eq_elim}
use Rattle.calendar.specs.File.{Appointment, Day, units, filled, block_bytes, blocks, descriptor_bytes, table, last_block}
use Rattle.calendar.specs.Lists.{places_in_list}
use Rattle.calendar.specs.Reader.{table_end, day_at, list_of, table_from, days_from}
use Rattle.calendar.specs.Shown.{places_from, appointment_at}
use Rattle.calendar.proofs.Laws.Reader.{table_none, table-rises, days-none, days-next}
use Rattle.calendar.proofs.Laws.File.{length-filled, filled_piece}
use Rattle.calendar_writer.proofs.Laws.From.{From, from-recast, from-place-equal, from-skip}
use Rattle.calendar_writer.proofs.Laws.DayRead.{GoodDay, Described, day_described, DayRead, day_read}

-- days that the reader takes as they are, none before low, whose first block stands at unit u
abbrev pub GoodDays : ℕ → ℕ → List Day → Type 0
GoodDays low u [] = Unit {0}
GoodDays low u (d ∷ ds) = GoodDay d × (low ≤ d.day) × (u ≤ last_block) × GoodDays (d.day + 1) (u + units (length (block_bytes d))) ds

-- what the days hold on day x
unfoldable pub list_on : ℕ → List Day → List Appointment
list_on x [] = []
list_on x (d ∷ ds) = if_eq d.day x d.appointments (list_on x ds)

pub list_on_nil : (x : ℕ) → list_on x [] ≡ []
unfolding list_on
list_on_nil x = refl

-- the table and the days are read without refusal, and show what was written
pub record TableRead (f : List ℕ) (p low : ℕ) (ds : List Day) : Type 0 where
  pub rises : table_from (length ds) f p low ≡ Ok tt
  pub days : days_from (length ds) f p ≡ Ok tt
  pub shown : (x : ℕ) → map (appointment_at f) (places_from (length ds) f p x) ≡ list_on x ds

first_shown_lem : {f : List ℕ} {p : ℕ} (d : Day) (ds : List Day) (x : ℕ) → day_at f p ≡ d.day → DayRead f p d → map (appointment_at f) (places_from (length ds) f (p + 12) x) ≡ list_on x ds → map (appointment_at f) (places_from (length (d ∷ ds)) f p x) ≡ list_on x (d ∷ ds)
unfolding places_from list_on
first_shown_lem {f} {p} d ds x e r i =
    eq_elim {X = Unit {0}} (λ _. map (appointment_at f) (if_eq (day_at f p) x (places_in_list (list_of f p)) (places_from (length ds) f (p + 12) x)) ≡ if_eq d.day x d.appointments (list_on x ds)) d.day x tt tt
    (λ y. rw (is_eq (e ∙ y), is_eq y, r.shown))
    (λ n. rw (is_ne (λ y. n (sym e ∙ y)), is_ne n, i))

none-shown : (f : List ℕ) (p x : ℕ) → map (appointment_at f) (places_from 0 f p x) ≡ list_on x []
unfolding places_from list_on
none-shown f p x = refl

pub table-read : {f : List ℕ} (p u low : ℕ) (ds : List Day) (post after : List ℕ) → GoodDays low u ds → table_end f ≤ 64 * u → From f p (table u ds ++ post) → From f (64 * u) (blocks ds ++ after) → TableRead f p low ds
unfolding table blocks
table-read {f} p u low [] post after g t h b =
    record { rises = table_none f p low; days = days-none f p; shown = none-shown f p }
table-read {f} p u low (d ∷ ds) post after g t h b =
    let n : ℕ = u + units (length (block_bytes d)) in
    let s : Described f p u d (table n ds ++ post) = day_described u d (table n ds ++ post) g.0.known g.2 (from-recast h (append_assoc (descriptor_bytes u d) (table n ds) post)) in
    let here : From f (64 * u) (filled (block_bytes d) ++ (blocks ds ++ after)) = from-recast b (append_assoc (filled (block_bytes d)) (blocks ds) after) in
    let r : DayRead f p d = day_read u d (table n ds ++ post) _ g.0 g.2 t s (from-recast here (filled_piece (block_bytes d) (blocks ds ++ after))) in
    let next : From f (64 * n) (blocks ds ++ after) = from-place-equal (from-skip (filled (block_bytes d)) here) (omega (arith, length-filled (block_bytes d))) in
    let i : TableRead f (p + 12) (d.day + 1) ds = table-read (p + 12) n (d.day + 1) ds post after g.3 (omega arith) s.next next in
    record {
      rises = table-rises f p low (length ds) (rw s.day g.0.known) (rw s.day g.1) ∙ rw s.day i.rises;
      days = days-next f p (length ds) r.fine ∙ i.days;
      shown = λ x. first_shown_lem d ds x s.day r (i.shown x);
    }
