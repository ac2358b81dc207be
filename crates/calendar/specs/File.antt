-- The Calendar file as it is written, document 01 "The Calendar file": head, descriptors, day blocks. "Two-byte numbers, low byte first."
-- Assumes nothing.
use Rattle.std.specs.Prelude.{ℕ, ◌+◌, ◌-◌, ◌*◌, ◌/◌, ◌%◌, List, [], ◌∷◌, ◌++◌, length, replicate}
use Rattle.prelude.specs.Bytes.{le16}
use Rattle.calendar.specs.declared.types.CalendarSettings.{CalendarSettings}

-- "a day's block would start at block 32,768 or later": the last block that a day may start at
abbrev pub last_block : ℕ
last_block = 32767

-- an appointment: "minute, flags, text"
pub record Appointment : Type 0 where
  pub minute : ℕ
  pub flags : ℕ
  pub text : List ℕ

-- a day with its appointments
pub record Day : Type 0 where
  pub day : ℕ
  pub appointments : List Appointment

-- "filling and reserved head bytes are 0"
abbrev pub zeros : ℕ → List ℕ
zeros n = replicate n 0

-- the units of 64 bytes that n bytes take
abbrev pub units : ℕ → ℕ
units n = (n + 63) / 64

-- "filled to a multiple of 64"
unfoldable pub filled : List ℕ → List ℕ
filled xs = xs ++ zeros (64 * units (length xs) - length xs)

-- "Appointment: size byte, flags (1 alarm, 2 special time), minute, text, zero byte."
unfoldable pub appointment_bytes : Appointment → List ℕ
appointment_bytes a = (5 + length a.text) ∷ (a.flags ∷ (le16 a.minute ++ (a.text ++ (0 ∷ []))))

unfoldable pub appointments_bytes : List Appointment → List ℕ
appointments_bytes [] = []
appointments_bytes (a ∷ al) = appointment_bytes a ++ appointments_bytes al

-- "Day block: 0, day, 1, note bytes, appointment bytes (five words), notes, appointments."; "Note bytes 0."
unfoldable pub block_bytes : Day → List ℕ
block_bytes d =
    le16 0
    ++ (le16 d.day
    ++ (le16 1
    ++ (le16 0
    ++ (le16 (length (appointments_bytes d.appointments)) ++ appointments_bytes d.appointments))))

-- "Blocks follow in the same order .., each filled to a multiple of 64"
unfoldable pub blocks : List Day → List ℕ
blocks [] = []
blocks (d ∷ ds) = filled (block_bytes d) ++ blocks ds

-- "alarm count is the number of alarm flags": bit 0 of the flags
unfoldable pub alarms : List Appointment → ℕ
alarms [] = 0
alarms (a ∷ al) = a.flags % 2 + alarms al

-- "Descriptors .. 12 bytes each: day, marks, alarm count, block offset in units of 64, two reserved words."; "marks 0; .. reserved words 0FFFh"
unfoldable pub descriptor_bytes : ℕ → Day → List ℕ
descriptor_bytes u d =
    le16 d.day ++ (le16 0 ++ (le16 (alarms d.appointments) ++ (le16 u ++ (le16 0x0FFF ++ le16 0x0FFF))))

-- the descriptors where the first block stands at unit u
unfoldable pub table : ℕ → List Day → List ℕ
table u [] = []
table u (d ∷ ds) = descriptor_bytes u d ++ table (u + units (length (block_bytes d))) ds

-- "Head: B5 A2 B0 B3 B3 B0 A2 B5; count of descriptors; early ring; sound; interval code ..; interval in minutes; 24-hour flag; start minute; bytes 22 to 63 reserved."
unfoldable pub head_bytes : CalendarSettings → ℕ → List ℕ
head_bytes s n =
    0xB5 ∷ (0xA2 ∷ (0xB0 ∷ (0xB3 ∷ (0xB3 ∷ (0xB0 ∷ (0xA2 ∷ (0xB5 ∷ (le16 n ++ (le16 s.ring ++ (le16 s.sound ++ (le16 s.code ++ (le16 s.interval ++ (le16 s.hours24 ++ (le16 s.start.0 ++ zeros 42))))))))))))))

-- "from the first multiple of 64 at or after the table's end": its unit, for n descriptors
abbrev pub first_unit : ℕ → ℕ
first_unit n = 1 + units (12 * n)

-- "Descriptors from byte 64"
unfoldable pub file_of : CalendarSettings → List Day → List ℕ
file_of s ds = head_bytes s (length ds) ++ (filled (table (first_unit (length ds)) ds) ++ blocks ds)
