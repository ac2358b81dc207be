-- One day on: what measuring, the table and the blocks make of the sums from the k-th on.
-- Assumes nothing.
use Rattle.std.specs.Prelude.{ℕ, ◌+◌, ◌<◌, ◌≤◌, ◌≡◌, List, [], ◌∷◌, ◌++◌, length, get_or, drop}
use Rattle.std.proofs.Common.{add-one, drop_of_length-le, drop-cons}
use Rattle.prelude.proofs.Laws.Choice.{is_eq, is_ne}
use Rattle.calendar.specs.File.{Appointment}
use Rattle.calendar_writer.specs.Sums.{count_in, alarms_in, units_for, measured, sum_up, descriptor_of, sum_table, row_of, rows}

module _ (ss : List ℕ) (k : ℕ) where
  -- what is left
  left : k < length ss → drop k ss ≡ get_or ss k 0 ∷ drop (k + 1) ss
  left h = rw (add-one k) (drop-cons ss k 0 h)

  pub no_more : length ss ≤ k → drop k ss ≡ []
  no_more h = drop_of_length-le ss h

  -- measuring
  module _ (n u last a : ℕ) where
    pub sum-end : length ss ≤ k → sum_up n u last a (drop k ss) ≡ measured n u last a
    unfolding sum_up
    sum-end h = rw (no_more h)

    pub sum_none : k < length ss → get_or ss k 0 ≡ 0 → sum_up n u last a (drop k ss) ≡ sum_up n u last a (drop (k + 1) ss)
    unfolding sum_up
    sum_none h e = rw (left h) (is_eq e _ _)

    pub sum_some : k < length ss → (get_or ss k 0 ≡ 0 → ⊥) → sum_up n u last a (drop k ss) ≡ sum_up (n + 1) (u + units_for (get_or ss k 0)) u (a + count_in (get_or ss k 0)) (drop (k + 1) ss)
    unfolding sum_up
    sum_some h e = rw (left h) (is_ne e _ _)

  -- the table
  module _ (d u : ℕ) where
    pub table-end : length ss ≤ k → sum_table d u (drop k ss) ≡ []
    unfolding sum_table
    table-end h = rw (no_more h)

    pub table_none : k < length ss → get_or ss k 0 ≡ 0 → sum_table d u (drop k ss) ≡ sum_table (d + 1) u (drop (k + 1) ss)
    unfolding sum_table
    table_none h e = rw (left h) (is_eq e _ _)

    pub table-some : k < length ss → (get_or ss k 0 ≡ 0 → ⊥) → sum_table d u (drop k ss) ≡ descriptor_of d (alarms_in (get_or ss k 0)) u ++ sum_table (d + 1) (u + units_for (get_or ss k 0)) (drop (k + 1) ss)
    unfolding sum_table
    table-some h e = rw (left h) (is_ne e _ _)

  -- the blocks
  module _ (so : ℕ → List Appointment) (d : ℕ) where
    pub rows_end : length ss ≤ k → rows so d k (drop k ss) ≡ []
    unfolding rows
    rows_end h = rw (no_more h)

    pub rows_more : k < length ss → rows so d k (drop k ss) ≡ row_of d (get_or ss k 0) (so k) ++ rows so (d + 1) (k + 1) (drop (k + 1) ss)
    unfolding rows
    rows_more h = rw (left h)
