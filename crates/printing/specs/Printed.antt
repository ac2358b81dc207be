-- A printed page, document 01: "Printed, it is date, weekday and number of lines, then each start, end and text".
-- Year in four digits, month, day, hour and minute in two; each line is ended by 0Ah.
-- Assumes nothing.
use Rattle.std.specs.Prelude.{ℕ, ◌/◌, ◌%◌, Bool, List, [], ◌∷◌, ◌++◌, map, length}
use Rattle.prelude.specs.Choice.{if_eq, if_b}
use Rattle.prelude.specs.Bytes.{stretch_bytes}
use Rattle.digits.specs.Digits.{two, four, decimal}
use Rattle.days.specs.declared.types.Date.{Date}
use Rattle.days.specs.declared.types.DayFacts.{DayFacts}
use Rattle.pages.specs.Pages.{Numbered, page_of, page_line_of}
use Rattle.pages.specs.declared.types.Line.{Line}

abbrev pub newline : ℕ
newline = 0x0A

abbrev pub space : ℕ
space = 0x20

abbrev pub dash : ℕ
dash = 0x2D

abbrev pub colon : ℕ
colon = 0x3A

abbrev pub asterisk : ℕ
asterisk = 0x2A

-- "date": 1993-03-15
unfoldable pub date_text : Date → List ℕ
date_text d = four d.year ++ (dash ∷ (two d.month ++ (dash ∷ two d.day)))

-- "weekday", 1 = Sunday to 7 = Saturday: Sun, Mon, Tue, Wed, Thu, Fri, Sat
unfoldable pub weekday_name : ℕ → List ℕ
weekday_name w =
    if_eq w 1 (0x53 ∷ (0x75 ∷ (0x6E ∷ [])))
    (if_eq w 2 (0x4D ∷ (0x6F ∷ (0x6E ∷ [])))
    (if_eq w 3 (0x54 ∷ (0x75 ∷ (0x65 ∷ [])))
    (if_eq w 4 (0x57 ∷ (0x65 ∷ (0x64 ∷ [])))
    (if_eq w 5 (0x54 ∷ (0x68 ∷ (0x75 ∷ [])))
    (if_eq w 6 (0x46 ∷ (0x72 ∷ (0x69 ∷ []))) (0x53 ∷ (0x61 ∷ (0x74 ∷ []))))))))

-- "date, weekday and number of lines"
unfoldable pub head_line : DayFacts → ℕ → List ℕ
head_line d n =
    date_text d.date ++ (space ∷ (weekday_name d.weekday ++ (space ∷ (decimal n ++ (newline ∷ [])))))

-- a minute as hour and minute: 10:00
unfoldable pub clock : ℕ → List ℕ
clock m = two (m / 60) ++ (colon ∷ two (m % 60))

-- document 02, R-7: "Pages mark a moved line with an asterisk straight after the end time"
unfoldable pub moved_mark : Bool → List ℕ
moved_mark moved = if_b moved (asterisk ∷ []) []

-- "each start, end and text; an empty text leaves the space before it"
unfoldable pub page_line : List ℕ → Line → List ℕ
page_line f l =
    clock l.start.0 ++ (dash ∷ (clock l.end.0 ++ (moved_mark l.moved ++ (space ∷ (stretch_bytes f l.text ++ (newline ∷ []))))))

unfoldable pub page_lines : List ℕ → List Line → List ℕ
page_lines f [] = []
page_lines f (l ∷ ls) = page_line f l ++ page_lines f ls

unfoldable pub printed : List ℕ → DayFacts → List Line → List ℕ
printed f d ls = head_line d (length ls) ++ page_lines f ls

-- the printed page of the day whose facts are d, for any test of what shows
unfoldable pub page_text : (DayFacts → Numbered → Bool) → List ℕ → DayFacts → List ℕ
page_text shows f d = printed f d (map (page_line_of d) (page_of (shows d) f))
