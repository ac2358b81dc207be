-- The collecting pass: what it has of the records behind and what is left of those ahead make up the whole book.
-- Assumes nothing.
use Rattle.std.specs.Prelude.{ℕ, suc, ◌+◌, ◌*◌, ◌<◌, ◌≤◌, ◌≡◌, Bool, true, false, List, ◌∷◌, ◌++◌, map, length, get_or, take, set}
use Rattle.std.proofs.Common.{sym, ap, ◌∙◌, arith, zero-add, add-zero, add-one}
use Rattle.prelude.proofs.Laws.Bytes.{bit_most}
use Rattle.prelude.specs.Choice.{if_b}
use Rattle.prelude.proofs.Laws.Choice.{is_true, is_false, bool_cases, b_elim}
use Rattle.sorting.specs.Keep.{keep}
use Rattle.sorting.specs.Totals.{total}
use Rattle.sorting.proofs.Laws.Totals.{total-nil, total-cons}
use Rattle.book.specs.Walk.{next_place}
use Rattle.book.proofs.Laws.Books.{Cursor, cursor_first, Ahead, cursor-ahead}
use Rattle.book.specs.Settings.{first_record}
use Rattle.occurrences.specs.Next.{Next}
use Rattle.pages.specs.Pages.{Numbered, numbered, record_times}
use Rattle.pages.specs.Codes.{code}
use Rattle.pages.proofs.Laws.Codes.{codes_push, append_nil_whole}
use Rattle.pages.proofs.Laws.Pages.{numbered_at, numbered_first, Turn, numbered_cursor, keep-numbered-yes, keep-numbered-no, keep-numbered_end}
use Rattle.pages.specs.Invariants.{record_at}
use Rattle.calendar_writer.specs.Scatter.{Added}
use Rattle.calendar_writer.specs.Sums.{most_weight}
use Rattle.export.specs.Passes.{AtMost, CountedBook, Sound, kept_in, weighs, Weighed}
use Rattle.export.proofs.Laws.Books.{some-day-true, some-day-false, sound_at}

-- the pass before record n, which stands at a place
pub record Collecting (f : List ℕ) (mark : ℕ → Numbered → Bool) (days : List ℕ) (n at count : ℕ) (codes sums : List ℕ) : Type 0 where
  pub cursor : Cursor f n at
  pub few : count ≤ n
  pub long : length sums ≡ length days
  pub below : AtMost (n * most_weight) sums
  pub codes-so : map code (keep (kept_in mark (length days)) (numbered f)) ≡ take count codes ++ map code (keep (kept_in mark (length days)) (numbered_at f n))
  pub sums-so : (k : ℕ) → k < length days → total weighs (keep (mark k) (numbered f)) ≡ get_or sums k 0 + total weighs (keep (mark k) (numbered_at f n))

pub collect_start : (f : List ℕ) (mark : ℕ → Numbered → Bool) (days codes sums : List ℕ) → first_record ≤ length f → length sums ≡ length days → AtMost 0 sums → Collecting f mark days 0 first_record 0 codes sums
collect_start f mark days codes sums h l b =
    record {
      cursor = cursor_first f h;
      few = omega arith;
      long = l;
      below = record { each = λ k i. omega (arith, b.each k i) };
      codes-so = ap (λ (xs : List Numbered). map code (keep (kept_in mark (length days)) xs)) (numbered_first f);
      sums-so =
          λ k i.
          let z : get_or sums k 0 ≡ 0 = omega (arith, b.each k (omega arith)) in
          rw z (ap (λ (xs : List Numbered). total weighs (keep (mark k) xs)) (numbered_first f) ∙ sym (zero-add _));
    }

if_most : (t : Bool) (w : ℕ) → if_b t w 0 ≤ w
if_most t w = b_elim (λ z. z ≤ w) t w 0 (λ _. omega arith) (λ _. omega arith)

-- a record's weight
weigh_most : (f : List ℕ) (n at : ℕ) → Sound f at → weighs (record_at f n at) ≤ most_weight
weigh_most f n at s = omega (arith, bit_most (record_times (record_at f n at)).alarm, s.short)

module _ {f : List ℕ} {mark : ℕ → Numbered → Bool} {days : List ℕ} {n at count : ℕ} {codes sums : List ℕ} (g : Collecting f mark days n at count codes sums) where
  module _ {records : ℕ} (b : CountedBook f records) (inside : n < records) where
    ahead : Ahead f n at
    ahead = cursor-ahead f n at g.cursor (omega (arith, b.count))

    pub collect-sound : Sound f at
    collect-sound = sound_at f at b.size ahead.entry

    turned : Turn f n at
    turned = numbered_cursor f n at g.cursor (omega (arith, b.count))

    -- p is the test that the code goes by: on the days of the span it is the record's mark
    module _ {p : ℕ → Bool} (same : (k : ℕ) → k < length days → p k ≡ mark k (record_at f n at)) {next from : ℕ} (step : next ≡ next_place f at) (first : Next p 0 (length days) from) where
      abbrev x : Numbered
      x = record_at f n at

      -- it shows on no day
      pub collect-skip : length days ≤ from → Collecting f mark days (n + 1) next count codes sums
      collect-skip past =
          let no : (k : ℕ) → k < length days → mark k x ≡ false = λ k l. sym (same k l) ∙ first.none k (omega arith) (omega arith) in
          rw (add-one n, step)
          (record {
            cursor = turned.next;
            few = omega (arith, g.few);
            long = g.long;
            below = record { each = λ k i. omega (arith, g.below.each k i) };
            codes-so = g.codes-so ∙ ap (λ (xs : List Numbered). take count codes ++ map code xs) (keep-numbered-no f n at turned (kept_in mark (length days)) (some-day-false (λ k. mark k x) (length days) no));
            sums-so = λ k l. g.sums-so k l ∙ ap (λ (xs : List Numbered). get_or sums k 0 + total weighs xs) (keep-numbered-no f n at turned (mark k) (no k l));
          })

      -- it shows on some: its code is stored, its weight added
      pub collect-take :
          {v : ℕ} {sums' : List ℕ} → from < length days → count < length codes → v ≡ code x
          → Added p (weighs x) (length days) sums sums' → Collecting f mark days (n + 1) next (count + 1) (set codes count v) sums'
      collect-take {v} {sums'} hit room e added =
          let yes : kept_in mark (length days) x ≡ true = some-day-true (λ k. mark k x) (length days) from hit (sym (same from hit) ∙ first.hit hit) in
          let w = weigh_most f n at collect-sound in
          rw (add-one n, step)
          (record {
            cursor = turned.next;
            few = omega (arith, g.few);
            long = added.long ∙ g.long;
            below = record { each = λ k i. omega (arith, added.behind k (omega (arith, g.long, added.long)), g.below.each k (omega (arith, added.long)), if_most (p k) (weighs x)) };
            codes-so =
                codes_push codes count v _ _ room
                (g.codes-so
                ∙ ap (λ (xs : List Numbered). take count codes ++ map code xs) (keep-numbered-yes f n at turned (kept_in mark (length days)) yes)
                ∙ ap (λ (y : ℕ). take count codes ++ (y ∷ map code (keep (kept_in mark (length days)) (numbered_at f (suc n))))) (sym e));
            sums-so =
                λ k l.
                let before = g.sums-so k l in
                let now-so = added.behind k l in
                bool_cases (p k)
                (λ t. omega (arith, before, now-so, is_true t (weighs x) 0, ap (total weighs) (keep-numbered-yes f n at turned (mark k) (sym (same k l) ∙ t)), total-cons weighs x (keep (mark k) (numbered_at f (suc n)))))
                (λ t. omega (arith, before, now-so, is_false t (weighs x) 0, ap (total weighs) (keep-numbered-no f n at turned (mark k) (sym (same k l) ∙ t))));
          })

  pub collect-end : {records : ℕ} → CountedBook f records → records ≤ n → (take count codes ≡ map code (keep (kept_in mark (length days)) (numbered f))) × Weighed f mark days sums
  collect-end b past = (
    append_nil_whole _ _ g.codes-so (ap (map code) (keep-numbered_end f n (kept_in mark (length days)) (omega (arith, b.count)))),
    record {
      long = g.long;
      each = λ k l. sym (g.sums-so k l ∙ ap (λ (xs : List Numbered). get_or sums k 0 + total weighs xs) (keep-numbered_end f n (mark k) (omega (arith, b.count))) ∙ rw (total-nil weighs) (add-zero _));
    },
  )
