-- A book's first twelve bytes, document 01 "The book": identification and settings.
-- Assumes nothing.
use Rattle.std.specs.Prelude.{ℕ, Bool, true, false, List, length, eqb}
use Rattle.prelude.specs.Choice.{if_lt, if_eq, if_b}
use Rattle.prelude.specs.Bytes.{byte, word}
use Rattle.days.specs.Days.{last_minute}
use Rattle.records.specs.Ranges.{most_lead}
use Rattle.book.specs.declared.types.Settings.{Settings}

-- "granularity 1..720 (house)"
abbrev pub most_granularity : ℕ
most_granularity = 720

-- behind identification and settings, 5 and 7 bytes
abbrev pub first_record : ℕ
first_record = 12

-- "Identification, 5 bytes: FF FF 01 00 01."
unfoldable pub book_mark : ℕ → ℕ → ℕ → ℕ → ℕ → Bool
book_mark a b c d e =
    if_eq a 0xFF (if_eq b 0xFF (if_eq c 0x01 (if_eq d 0x00 (if_eq e 0x01 true false) false) false) false) false

-- A missing byte counts as 0, and the fifth is 01: a file of fewer than five bytes is no book.
unfoldable pub book_identified : List ℕ → Bool
book_identified f = book_mark (byte f 0) (byte f 1) (byte f 2) (byte f 3) (byte f 4)

-- "Settings, 7 bytes: display start minute 0..1,439; granularity 1..720 (house); .. lead time 0..30 (house)"
unfoldable pub settings_in_range : Settings → Bool
settings_in_range s =
    if_lt last_minute s.start.0 false
    (if_lt s.granularity 1 false (if_lt most_granularity s.granularity false (if_lt most_lead s.lead false true)))

unfoldable pub settings_of : List ℕ → Settings
settings_of f =
    record {
      start = record { 0 = word f 5 };
      granularity = word f 7;
      alarm = eqb (byte f 9) 1;
      lead = byte f 10;
      carry_forward = eqb (byte f 11) 1;
    }

-- "alarm 0 or 1; .. carry forward 0 or 1"
unfoldable pub flags_ok : ℕ → ℕ → Bool
flags_ok alarm carry = if_lt 1 alarm false (if_lt 1 carry false true)

-- the settings are there and in range
unfoldable pub settings_ok : List ℕ → Bool
settings_ok f =
    if_lt (length f) first_record false (if_b (settings_in_range (settings_of f)) (flags_ok (byte f 9) (byte f 11)) false)
