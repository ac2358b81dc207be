-- Document 01, "One whole case": the files of 192 and of 64 bytes, as they are written and read.
-- Assumes nothing.
use Rattle.std.specs.Prelude.{Ok, ℕ, ◌≡◌, refl, List, [], ◌∷◌, ◌++◌, length}
use Rattle.prelude.specs.Choice.{if_lt, if_eq, if_b}
use Rattle.prelude.specs.Bytes.{le16}
use Rattle.prelude.specs.Verdicts.{and_then}
use Rattle.calendar.specs.File.{Appointment, Day, zeros, filled, appointment_bytes, appointments_bytes, block_bytes, blocks, alarms, descriptor_bytes, table, head_bytes, file_of}
use Rattle.calendar.specs.Lists.{first_zero, appointment_ok, list_walk_f, list_walk_from, places_in_list, verdict_in}
use Rattle.calendar.specs.Reader.{calendar_mark, calendar_identified, table_from, block_ok, day_verdict, days_from, calendar_answered, calendar_of}
use Rattle.calendar.specs.Shown.{places_from, places_on, appointment_at, appointments_on}
use Rattle.calendar.specs.declared.types.CalendarSettings.{CalendarSettings}

-- lead time 5, alarm on, granularity 30, display from 8:00
abbrev settings : CalendarSettings
settings = record { ring = 5; sound = 1; code = 1; interval = 30; hours24 = 1; start = record { 0 = 480 } }

-- day 4,822 at 10:00, alarm on, "Dep"
abbrev departure : Appointment
departure = record { minute = 600; flags = 1; text = 0x44 ∷ (0x65 ∷ (0x70 ∷ [])) }

abbrev days : List Day
days = (record { day = 4822; appointments = departure ∷ [] }) ∷ []

-- B5 A2 B0 B3 B3 B0 A2 B5 01 00 05 00 01 00 01 00 1E 00 01 00 E0 01, 42 zeros; D6 12 00 00 01 00 02 00 FF 0F FF 0F, 52 zeros; 00 00 D6 12 01 00 00 00 08 00 08 01 58 02 44 65 70 00, 46 zeros
abbrev pub case : List ℕ
case =
    0xB5 ∷ 0xA2 ∷ 0xB0 ∷ 0xB3 ∷ 0xB3 ∷ 0xB0 ∷ 0xA2 ∷ 0xB5 ∷ 0x01 ∷ 0x00 ∷ 0x05 ∷ 0x00 ∷ 0x01 ∷ 0x00 ∷ 0x01 ∷ 0x00 ∷ 0x1E ∷ 0x00 ∷ 0x01 ∷ 0x00 ∷ 0xE0 ∷ 0x01 ∷
    (zeros 42 ++
    (0xD6 ∷ 0x12 ∷ 0x00 ∷ 0x00 ∷ 0x01 ∷ 0x00 ∷ 0x02 ∷ 0x00 ∷ 0xFF ∷ 0x0F ∷ 0xFF ∷ 0x0F ∷
    (zeros 52 ++
    (0x00 ∷ 0x00 ∷ 0xD6 ∷ 0x12 ∷ 0x01 ∷ 0x00 ∷ 0x00 ∷ 0x00 ∷ 0x08 ∷ 0x00 ∷ 0x08 ∷ 0x01 ∷ 0x58 ∷ 0x02 ∷ 0x44 ∷ 0x65 ∷ 0x70 ∷ 0x00 ∷
    zeros 46))))

pub case-written : (file_of settings days ≡ case) × (length case ≡ 192)
unfolding file_of head_bytes table descriptor_bytes alarms filled blocks block_bytes appointments_bytes appointment_bytes le16
case-written = (refl, refl)

pub case-accepted : calendar_of case ≡ Ok 1
unfolding calendar_of calendar_answered and_then calendar_identified calendar_mark table_from days_from day_verdict block_ok list_walk_from list_walk_f appointment_ok first_zero verdict_in if_lt if_eq if_b
case-accepted = refl

pub case-shown : (appointments_on case 4822 ≡ departure ∷ []) × (appointments_on case 4821 ≡ [])
unfolding appointments_on appointment_at places_on places_from places_in_list list_walk_from list_walk_f appointment_ok first_zero if_lt if_eq if_b
case-shown = (refl, refl)

-- "A span without it: 64 bytes, count 0."
abbrev pub empty_case : List ℕ
empty_case =
    0xB5 ∷ 0xA2 ∷ 0xB0 ∷ 0xB3 ∷ 0xB3 ∷ 0xB0 ∷ 0xA2 ∷ 0xB5 ∷ 0x00 ∷ 0x00 ∷ 0x05 ∷ 0x00 ∷ 0x01 ∷ 0x00 ∷ 0x01 ∷ 0x00 ∷ 0x1E ∷ 0x00 ∷ 0x01 ∷ 0x00 ∷ 0xE0 ∷ 0x01 ∷ zeros 42

pub empty_written : (file_of settings [] ≡ empty_case) × (length empty_case ≡ 64)
unfolding file_of head_bytes table filled blocks le16
empty_written = (refl, refl)

pub empty_accepted : calendar_of empty_case ≡ Ok 0
unfolding calendar_of calendar_answered and_then calendar_identified calendar_mark table_from days_from if_lt if_eq if_b
empty_accepted = refl
