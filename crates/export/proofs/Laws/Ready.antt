-- A book ready to be filled in: its kept records in order, and the sums of the span. What each record finds and leaves.
-- Assumes nothing.
use Rattle.std.specs.Prelude.{ℕ, ◌+◌, ◌-◌, ◌*◌, ◌%◌, ◌<◌, ◌≤◌, ◌≡◌, refl, Bool, length, get_or}
use Rattle.std.proofs.Common.{sym, ap, ◌∙◌, arith, zero-add}
use mathlib.Core.List.{List, [], ◌∷◌, ◌++◌, map, Memᴰ}
use Rattle.prelude.proofs.Laws.Choice.{is_true}
use Rattle.prelude.proofs.Laws.Members.{member_at}
use Rattle.sorting.proofs.Laws.Keep.{keep-member}
use Rattle.sorting.specs.Order.{sort}
use Rattle.sorting.proofs.Laws.Order.{sort-member}
use Rattle.sorting.specs.Codes.{minute_in}
use Rattle.book.specs.Books.{entry_at}
use Rattle.book.specs.declared.types.Entry.{Entry}
use Rattle.pages.specs.Pages.{Numbered, numbered, start_of, page_of}
use Rattle.pages.specs.Codes.{decode}
use Rattle.pages.proofs.Laws.Codes.{page_codes}
use Rattle.pages.proofs.Laws.Decoding.{page-decoded}
use Rattle.calendar.specs.File.{Appointment, Day, zeros, units, appointment_bytes, appointments_bytes, blocks, table, head_bytes, first_unit, file_of}
use Rattle.calendar.proofs.Laws.File.{length_appointment, length-table}
use Rattle.calendar.specs.declared.types.CalendarSettings.{CalendarSettings}
use Rattle.calendar_writer.specs.DayLists.{days_with}
use Rattle.calendar_writer.proofs.Laws.Spans.{days-few}
use Rattle.calendar_writer.specs.Sums.{Sums, sum_table, rows, units_to, none_yet}
use Rattle.calendar_writer.specs.Scatter.{Added, Roomy, scatter, FilledBlocks}
use Rattle.calendar_writer.proofs.Laws.Rows.{length_more, Fits, length-rows, fits_none}
use Rattle.calendar_writer.proofs.Laws.Filling.{filled-append-appointment, filled-long, fill-room, filled-same}
use Rattle.calendar_writer.proofs.Laws.Sums.{sums_at, table-sums, rows-sums}
use Rattle.calendar_writer.proofs.Laws.Pieces.{file_pieces}
use Rattle.export.specs.Export.{appointment_of, appointments_for}
use Rattle.export.specs.Passes.{Sound, kept_in, so_far}
use Rattle.export.proofs.Laws.Books.{Whole, book-whole, weighed-sum}
use Rattle.export.proofs.Laws.Steps.{so-far-zero, so-far-suc, so-far-all, so-far-fits}
use Rattle.export.specs.Invariants.{ReadyToFill, Gathered}

pub gathered_ordered :
    {f : List ℕ} {shows : ℕ → Numbered → Bool} {first : ℕ} {mark : ℕ → Numbered → Bool} {days sums codes codes' : List ℕ}
    → Gathered f shows first mark days sums codes → codes' ≡ sort minute_in codes → ReadyToFill f shows first mark days sums codes'
gathered_ordered {f} {mark = mark} {days} g e =
    record {
      records = g.records;
      counted = g.counted;
      good = g.good;
      span = g.span;
      marks = g.marks;
      weighed = g.weighed;
      kept = e ∙ ap (sort minute_in) g.kept ∙ sym (page_codes (kept_in mark (length days)) f);
    }

-- the zeros behind n descriptors, from the file's start on
zeros_size : (n unit : ℕ) → unit ≡ first_unit n → 64 * units (12 * n) - 12 * n ≡ 64 * unit - (64 + 12 * n)
zeros_size n unit e = omega arith

place_at : (f : List ℕ) (at : ℕ) → (entry_at f at).place ≡ at
unfolding entry_at
place_at f at = refl

decode_place : (f : List ℕ) (v : ℕ) → (decode f v).entry.place ≡ v % 65536
unfolding decode
decode_place f v = place_at f (v % 65536)

module _ {f : List ℕ} {shows : ℕ → Numbered → Bool} {first : ℕ} {mark : ℕ → Numbered → Bool} {days sums codes : List ℕ} (r : ReadyToFill f shows first mark days sums codes) where
  -- the record of a code
  page-member : (p : Numbered → Bool) {x : Numbered} → Memᴰ x (page_of p f) → Memᴰ x (numbered f)
  unfolding page_of
  page-member p m = (keep-member p (sort-member start_of m)).0

  pub ready-sound : (n : ℕ) → n < length codes → Sound f (get_or codes n 0 % 65536)
  ready-sound n l =
      let b = r.counted in
      let xs : map (decode f) codes ≡ page_of (kept_in mark (length days)) f = ap (map (decode f)) r.kept ∙ page-decoded f b.long b.size (kept_in mark (length days)) in
      let x : Numbered = decode f (get_or codes n 0) in
      let m : Memᴰ x (page_of (kept_in mark (length days)) f) = rw xs at (mathlib.Core.List.Memᴰ.map (decode f) (member_at codes n 0 l)) in
      let w : Whole b x = book-whole b (page-member (kept_in mark (length days)) m) in
      let e : w.at ≡ get_or codes n 0 % 65536 = sym (place_at f w.at) ∙ ap (λ (y : Entry). y.place) (sym w.entry) ∙ decode_place f (get_or codes n 0) in
      rw e at w.sound

  module _ (interval : ℕ) where
    abbrev so : ℕ → ℕ → List Appointment
    so n = so_far f interval mark codes n

    fits : (n : ℕ) → Fits (so n) 0 sums
    fits n = so-far-fits f interval mark codes days r.counted r.kept r.marks r.good r.weighed n

    -- how long the blocks are
    pub ready-long : (n : ℕ) → length (rows (so_far f interval mark codes n) first 0 sums) ≡ 64 * units_to (length sums) sums
    ready-long n = length-rows (so n) first 0 sums (fits n)

    pub blank-long : length (rows none_yet first 0 sums) ≡ 64 * units_to (length sums) sums
    blank-long = length-rows none_yet first 0 sums (fits_none 0 sums)

    module _ {o : List ℕ} {at : ℕ} (inside : at + 64 * units_to (length sums) sums ≤ length o) where
      -- before the first record
      pub filled-so-far-zero : {places out : List ℕ} → FilledBlocks o at first sums none_yet places out → FilledBlocks o at first sums (so_far f interval mark codes 0) places out
      filled-so-far-zero g = filled-same (so 0) (λ i l. sym (so-far-zero f interval mark codes i)) g

      module _ {n : ℕ} {places out : List ℕ} (l : n < length codes) (g : FilledBlocks o at first sums (so_far f interval mark codes n) places out) where
        abbrev x : Numbered
        x = decode f (get_or codes n 0)

        abbrev a : Appointment
        a = appointment_of f interval x

        -- its appointment has room
        pub ready-room : Roomy (λ k. mark k (decode f (get_or codes n 0))) (length days) (length (appointment_bytes (appointment_of f interval (decode f (get_or codes n 0))))) places (length out)
        ready-room =
            record {
              each =
                  λ k i t.
                  let e : so (n + 1) k ≡ so n k ++ (a ∷ []) = so-far-suc f interval mark codes n k l ∙ is_true t _ _ in
                  let q : k < length sums = omega (arith, r.weighed.long) in
                  let m = rw (zero-add k) at ((fits (n + 1)).each k q) in
                  fill-room inside g (length (appointment_bytes a)) (fits n) q (omega (arith, length_appointment a)) (omega (arith, m, length_more (so n k) a, ap (λ (al : List Appointment). length (appointments_bytes al)) e));
            }

        -- and then the next one's turn
        pub filled-so-far-suc :
            {places' out' : List ℕ}
            → Added (λ k. mark k (decode f (get_or codes n 0))) (length (appointment_bytes (appointment_of f interval (decode f (get_or codes n 0))))) (length days) places places'
            → out' ≡ scatter (length days) (λ k. mark k (decode f (get_or codes n 0))) (appointment_bytes (appointment_of f interval (decode f (get_or codes n 0)))) places 0 out
            → FilledBlocks o at first sums (so_far f interval mark codes (n + 1)) places' out'
        filled-so-far-suc {places'} {out'} added e =
            let q = r.weighed.long in
            rw (e, ← q) (filled-append-appointment inside g (λ k. mark k x) a (so (n + 1)) (fits n) (fits (n + 1)) (λ i h. so-far-suc f interval mark codes n i l) (rw q added))

      pub ready-whole : (n : ℕ) {places out : List ℕ} → FilledBlocks o at first sums (so_far f interval mark codes n) places out → length out ≡ length o
      ready-whole n g = filled-long inside g (fits n)

    -- the sums are those of the export's days
    pub ready-sums : Sums (appointments_for shows f interval) first sums
    ready-sums = sums_at _ first sums (λ k l. weighed-sum r.marks r.counted r.good interval r.weighed k (omega (arith, r.weighed.long)))

    pub ready-all : (k : ℕ) → k < length days → so_far f interval mark codes (length codes) k ≡ appointments_for shows f interval (first + k)
    ready-all k l = so-far-all f interval mark codes days r.counted r.kept r.marks k l

  -- the file, piece by piece
  module _ (s : CalendarSettings) where
    abbrev ds : List Day
    ds = days_with (appointments_for shows f s.interval) (length days) first

    sums-days : days_with (appointments_for shows f s.interval) (length sums) first ≡ ds
    sums-days = ap (λ (n : ℕ). days_with (appointments_for shows f s.interval) n first) r.weighed.long

    pub ready-few : length (days_with (appointments_for shows f s.interval) (length days) first) ≤ length days
    ready-few = days-few (appointments_for shows f s.interval) (length days) first

    table_of : (unit : ℕ) → sum_table first unit sums ≡ table unit ds
    table_of unit = table-sums _ first unit sums (ready-sums s.interval) ∙ ap (table unit) sums-days

    pub ready-table : (unit : ℕ) → length (sum_table first unit sums) ≡ 12 * length (days_with (appointments_for shows f s.interval) (length days) first)
    ready-table unit = ap length (table_of unit) ∙ length-table unit ds

    blocks-of : rows (so_far f s.interval mark codes (length codes)) first 0 sums ≡ blocks ds
    blocks-of =
        rows-sums _ (so_far f s.interval mark codes (length codes)) first 0 sums (ready-sums s.interval)
        (λ i l. rw (zero-add i) (ready-all s.interval i (omega (arith, r.weighed.long))))
        ∙ ap blocks sums-days

    pub ready-file :
        {n unit : ℕ} → n ≡ length (days_with (appointments_for shows f s.interval) (length days) first) → unit ≡ first_unit n
        → file_of s (days_with (appointments_for shows f s.interval) (length days) first) ≡ head_bytes s n ++ (sum_table first unit sums ++ (zeros (64 * unit - (64 + 12 * n)) ++ rows (so_far f s.interval mark codes (length codes)) first 0 sums))
    ready-file {n} {unit} e u =
        let z : 64 * units (12 * length ds) - 12 * length ds ≡ 64 * unit - (64 + 12 * n) = rw (← e) (zeros_size n unit u) in
        file_pieces s ds ∙ rw (z, ← e, ← u, table_of unit, blocks-of)
