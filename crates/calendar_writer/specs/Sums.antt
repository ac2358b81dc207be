-- A day's appointments as one sum, and what measuring and filling make of the sums of a span.
-- Assumes nothing.
use Rattle.std.specs.Prelude.{ℕ, zero, suc, ◌+◌, ◌-◌, ◌*◌, ◌/◌, ◌%◌, ◌≡◌, Bool, true, false, List, [], ◌∷◌, ◌++◌, length}
use Rattle.prelude.specs.Choice.{if_lt, if_eq}
use Rattle.prelude.specs.Bytes.{bit, le16}
use Rattle.sorting.specs.Totals.{total}
use Rattle.calendar.specs.File.{Appointment, Day, zeros, units, appointments_bytes, alarms, first_unit, file_of, last_block}
use Rattle.calendar.specs.declared.types.CalendarSettings.{CalendarSettings}
use Rattle.calendar_writer.specs.DayLists.{past_last_block}
use Rattle.calendar_writer.specs.declared.types.Measure.{Measure}

-- the measure of a file of days
abbrev pub measure_of : CalendarSettings → List Day → Measure
measure_of s ds =
    record {
      length = length (file_of s ds);
      descriptors = length ds;
      appointments = total (λ d. length d.appointments) ds;
      past_last_block = past_last_block ds;
    }

-- a day's appointments as one sum: how many they are, their alarms, and their bytes
abbrev pub sum_of : ℕ → ℕ → ℕ → ℕ
sum_of count alarm bytes = count * 4294967296 + alarm * 65536 + bytes

-- a sum's number of appointments, of alarms, and of bytes
abbrev pub count_in : ℕ → ℕ
count_in s = s / 4294967296

abbrev pub alarms_in : ℕ → ℕ
alarms_in s = s / 65536 % 65536

abbrev pub bytes_in : ℕ → ℕ
bytes_in s = s % 65536

-- one appointment of a text's length, with an alarm or without, as a sum
abbrev pub weight_of : Bool → ℕ → ℕ
weight_of alarm n = sum_of 1 (bit alarm) (5 + n)

-- no appointment weighs as much as two
abbrev pub most_weight : ℕ
most_weight = sum_of 2 0 0

pub record Sum (s : ℕ) (al : List Appointment) : Type 0 where
  pub count : count_in s ≡ length al
  pub alarm : alarms_in s ≡ alarms al
  pub bytes : bytes_in s ≡ length (appointments_bytes al)

-- the sums of the days from d on, where `list` gives a day's appointments
abbrev pub Sums : (ℕ → List Appointment) → ℕ → List ℕ → Type 0
Sums list d [] = Unit {0}
Sums list d (s ∷ ss) = Sum s (list d) × Sums list (suc d) ss

-- the units of a day's block
abbrev pub units_for : ℕ → ℕ
units_for s = units (10 + bytes_in s)

-- those of the longest block: no sum has more than 65,535 bytes
abbrev pub most_units : ℕ
most_units = units_for 65535

-- n days behind with u units of blocks, the last of which began after `last` units, and a appointments
abbrev pub measured : ℕ → ℕ → ℕ → ℕ → Measure
measured n u last a =
    record { length = 64 * (first_unit n + u); descriptors = n; appointments = a; past_last_block = if_lt last_block (first_unit n + last) true false }

unfoldable pub sum_up : ℕ → ℕ → ℕ → ℕ → List ℕ → Measure
sum_up n u last a [] = measured n u last a
sum_up n u last a (s ∷ ss) = if_eq s 0 (sum_up n u last a ss) (sum_up (n + 1) (u + units_for s) u (a + count_in s) ss)

-- a descriptor, and the table of the days from d on whose first block stands at unit u
unfoldable pub descriptor_of : ℕ → ℕ → ℕ → List ℕ
descriptor_of d a u = le16 d ++ (le16 0 ++ (le16 a ++ (le16 u ++ (le16 0x0FFF ++ le16 0x0FFF))))

unfoldable pub sum_table : ℕ → ℕ → List ℕ → List ℕ
sum_table d u [] = []
sum_table d u (s ∷ ss) = if_eq s 0 (sum_table (d + 1) u ss) (descriptor_of d (alarms_in s) u ++ sum_table (d + 1) (u + units_for s) ss)

-- the five words of a block, and a block of which only some appointments are written yet
unfoldable pub block_head : ℕ → ℕ → List ℕ
block_head d n = le16 0 ++ (le16 d ++ (le16 1 ++ (le16 0 ++ le16 n)))

unfoldable pub row_of : ℕ → ℕ → List Appointment → List ℕ
row_of d s al =
    if_eq s 0 []
    (block_head d (bytes_in s) ++ (appointments_bytes al ++ zeros (64 * units_for s - 10 - length (appointments_bytes al))))

-- the blocks of the days from d on, the k-th and so on, where `so` gives the appointments so far
unfoldable pub rows : (ℕ → List Appointment) → ℕ → ℕ → List ℕ → List ℕ
rows so d k [] = []
rows so d k (s ∷ ss) = row_of d s (so k) ++ rows so (d + 1) (k + 1) ss

-- the units of the first k blocks
unfoldable pub units_to : ℕ → List ℕ → ℕ
units_to zero ss = 0
units_to (suc k) [] = 0
units_to (suc k) (s ∷ ss) = if_eq s 0 (units_to k ss) (units_for s + units_to k ss)

-- no appointment is written yet
abbrev pub none_yet : ℕ → List Appointment
none_yet k = []
