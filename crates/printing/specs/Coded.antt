-- The lines of a printed page as the codes of its records give them.
-- Assumes nothing.
use Rattle.std.specs.Prelude.{ℕ, ◌<◌, List, ◌++◌, map, length, get_or}
use Rattle.days.specs.declared.types.DayFacts.{DayFacts}
use Rattle.pages.specs.Pages.{page_line_of}
use Rattle.book.specs.Invariants.{RecordAt}
use Rattle.pages.specs.Codes.{place_in, decode}
use Rattle.pages.specs.declared.types.Line.{Line}
use Rattle.printing.specs.Printed.{head_line, page_lines}

-- the lines of codes, on the day whose facts are d
abbrev pub coded_lines : List ℕ → DayFacts → List ℕ → List Line
coded_lines f d codes = map (page_line_of d) (map (decode f) codes)

-- the printed page of codes
unfoldable pub coded_text : List ℕ → DayFacts → List ℕ → List ℕ
coded_text f d codes = head_line d (length codes) ++ page_lines f (coded_lines f d codes)

-- each code is that of a record of an accepted book
pub record CodesOf (f codes : List ℕ) : Type 0 where
  pub each : (i : ℕ) → i < length codes → RecordAt f (place_in (get_or codes i 0))
