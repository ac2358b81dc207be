-- `put_file` meets its contract: four pieces, one behind the other, by `ready-file`.
use Rattle.std.proofs.Common.{Bool, List, ap, arith, length, sym, ℕ, ◌*◌, ◌++◌, ◌+◌, ◌-◌, ◌≡◌, ◌≤◌}
use Rattle.prelude.specs.Splice.{splice}
use Rattle.prelude.proofs.Laws.Grown.{Grown, grown_start, grown-space, grown-last-fits, grown-more, grown-rest-equal, grown-last}
use Rattle.pages.specs.Pages.{Numbered}
use Rattle.calendar.specs.File.{zeros, head_bytes, first_unit, file_of}
use Rattle.calendar.specs.declared.types.CalendarSettings.{CalendarSettings}
use Rattle.calendar.proofs.Laws.File.{length_head}
use Rattle.calendar_writer.specs.DayLists.{days_with}
use Rattle.calendar_writer.specs.Sums.{sum_table, rows}
use Rattle.export.specs.Export.{appointments_for}
use Rattle.export.specs.Invariants.{ReadyToFill}
use Rattle.export.specs.Passes.{so_far}
use Rattle.export.proofs.Laws.Ready.{ready-few, ready-table, ready-file}
use Rattle.export.proofs.writing.put_file.Goals as goal

-- The days and pieces of the file, and how much is written behind the table.
module _ {f : List ℕ} {shows : ℕ → Numbered → Bool} {first : ℕ} {mark : ℕ → Numbered → Bool} {days sums codes : List ℕ} (r : ReadyToFill f shows first mark days sums codes) (s : CalendarSettings) where
  abbrev whole : List ℕ
  whole = file_of s (days_with (appointments_for shows f s.interval) (length days) first)

  abbrev lists : List ℕ
  lists = rows (so_far f s.interval mark codes (length codes)) first 0 sums

  module _ {n : ℕ} (e : n ≡ length (days_with (appointments_for shows f s.interval) (length days) first)) where
    table-end : (unit table end : ℕ) → table ≡ 0 + length (head_bytes s n) → end ≡ table + length (sum_table first unit sums) → end ≡ 64 + 12 * n
    table-end unit table end a b = omega (arith, length_head s n, ready-table r s unit, e)

    -- before the first piece, and behind each of the first three, as they are put
    module _ {unit : ℕ} (u : unit ≡ first_unit n) {o : List ℕ} (room : 0 + length whole ≤ length o) where
      before : Grown o 0 whole o 0 (head_bytes s n ++ (sum_table first unit sums ++ (zeros (64 * unit - (64 + 12 * n)) ++ lists)))
      before = grown-rest-equal (ready-file r s e u) (grown_start room)

      module _ {o₁ : List ℕ} {table : ℕ} (next₁ : table ≡ 0 + length (head_bytes s n)) (put₁ : o₁ ≡ splice o 0 (head_bytes s n)) where
        behind-head : Grown o 0 whole o₁ table (sum_table first unit sums ++ (zeros (64 * unit - (64 + 12 * n)) ++ lists))
        behind-head = grown-more (head_bytes s n) before next₁ put₁

        module _ {o₂ : List ℕ} {end : ℕ} (next₂ : end ≡ table + length (sum_table first unit sums)) (put₂ : o₂ ≡ splice o₁ table (sum_table first unit sums)) where
          behind-table : Grown o 0 whole o₂ end (zeros (64 * unit - end) ++ lists)
          behind-table =
              grown-rest-equal (ap (λ (m : ℕ). zeros (64 * unit - m) ++ lists) (sym (table-end unit table end next₁ next₂)))
              (grown-more (sum_table first unit sums) behind-head next₂ put₂)

          behind-zeros : {o₃ : List ℕ} {start : ℕ} → start ≡ end + length (zeros (64 * unit - end)) → o₃ ≡ splice o₂ end (zeros (64 * unit - end)) → Grown o 0 whole o₃ start lists
          behind-zeros next₃ put₃ = grown-more (zeros (64 * unit - end)) behind-table next₃ put₃

pub first_unit-unit-requires : goal.first_unit-unit-requires
first_unit-unit-requires c = omega (arith, c.requires.days_len_bound, c.requires.n_value, ready-few c.requires.ready_to_fill c.args.filling.now.settings)

pub put_head-table-requires : goal.put_head-table-requires
put_head-table-requires c = grown-space (head_bytes _ _) _ (before c.requires.ready_to_fill c.args.filling.now.settings c.requires.n_value c.first_unit-unit.ensures c.requires.first_in_bounds)

pub put_table-end-requires : goal.put_table-end-requires
put_table-end-requires c =
    let r = c.requires.ready_to_fill in
    record {
      sums_bound = omega (arith, r.span.end, r.weighed.long);
      unit_bound = omega (arith, c.first_unit-unit.ensures, c.requires.days_len_bound, c.requires.n_value, ready-few r c.args.filling.now.settings);
      sums_in_bounds = grown-space (sum_table _ _ _) _ (behind-head r c.args.filling.now.settings c.requires.n_value c.first_unit-unit.ensures c.requires.first_in_bounds c.put_head-table.ensures.next c.put_head-table.ensures.put);
    }

pub overflow_mul-unit : goal.overflow_mul-unit
overflow_mul-unit c = omega (arith, c.first_unit-unit.ensures, c.requires.days_len_bound, c.requires.n_value, ready-few c.requires.ready_to_fill c.args.filling.now.settings)

pub overflow_sub-unit : goal.overflow_sub-unit
overflow_sub-unit c =
    let e = table-end c.requires.ready_to_fill c.args.filling.now.settings c.requires.n_value c.first_unit-unit.result c.put_head-table.result c.put_table-end.result c.put_head-table.ensures.next c.put_table-end.ensures.next in
    omega (arith, e, c.first_unit-unit.ensures)

pub put_zeros-start-requires : goal.put_zeros-start-requires
put_zeros-start-requires c =
    let g = behind-table c.requires.ready_to_fill c.args.filling.now.settings c.requires.n_value c.first_unit-unit.ensures c.requires.first_in_bounds
    c.put_head-table.ensures.next c.put_head-table.ensures.put c.put_table-end.ensures.next c.put_table-end.ensures.put in
    grown-space (zeros (64 * c.first_unit-unit.result - c.put_table-end.result)) _ g

pub put_days-requires : goal.put_days-requires
put_days-requires c =
    let g = behind-zeros c.requires.ready_to_fill c.args.filling.now.settings c.requires.n_value c.first_unit-unit.ensures c.requires.first_in_bounds
    c.put_head-table.ensures.next c.put_head-table.ensures.put c.put_table-end.ensures.next c.put_table-end.ensures.put c.put_zeros-start.ensures.next c.put_zeros-start.ensures.put in
    record { ready_to_fill = c.requires.ready_to_fill; places_len = c.requires.places_len; sums_in_bounds = grown-last-fits g }

pub returns : goal.returns
returns c =
    let g = behind-zeros c.requires.ready_to_fill c.args.filling.now.settings c.requires.n_value c.first_unit-unit.ensures c.requires.first_in_bounds
    c.put_head-table.ensures.next c.put_head-table.ensures.put c.put_table-end.ensures.next c.put_table-end.ensures.put c.put_zeros-start.ensures.next c.put_zeros-start.ensures.put in
    let all = grown-last (rows _ _ _ _) g c.put_days.ensures.next c.put_days.ensures.put in
    record { next = all.0; put = all.1 }
