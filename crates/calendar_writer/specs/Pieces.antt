-- The pieces of a Calendar file as they are put, one behind the other.
-- Assumes nothing.
use Rattle.std.specs.Prelude.{ℕ, List, ◌∷◌, ◌++◌}
use Rattle.prelude.specs.Bytes.{le16}
use Rattle.calendar.specs.declared.types.CalendarSettings.{CalendarSettings}

-- the head: its eight bytes and the count, the six settings, the reserved bytes
unfoldable pub head_mark : ℕ → List ℕ
head_mark n = 0xB5 ∷ (0xA2 ∷ (0xB0 ∷ (0xB3 ∷ (0xB3 ∷ (0xB0 ∷ (0xA2 ∷ (0xB5 ∷ le16 n)))))))

unfoldable pub settings_words : CalendarSettings → List ℕ
settings_words s = le16 s.ring ++ (le16 s.sound ++ (le16 s.code ++ (le16 s.interval ++ (le16 s.hours24 ++ le16 s.start.0))))

-- an appointment before its text
unfoldable pub appointment_head : ℕ → ℕ → ℕ → List ℕ
appointment_head size flags minute = size ∷ (flags ∷ le16 minute)
