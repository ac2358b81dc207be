-- A record's next occurrence is its rule's, and the records of an accepted book have rules that say so.
-- Assumes nothing.
use Rattle.std.specs.Prelude.{ℕ, ◌<◌, ◌≤◌, ◌≡◌, true, List, length, get_or}
use Rattle.days.specs.Days.{last_day}
use Rattle.days.specs.Facts.{facts_of}
use Rattle.day_steps.proofs.Laws.Codes.{facts_known}
use Rattle.records.specs.Ranges.{record_ok}
use Rattle.records.proofs.Laws.Judged.{body_judged}
use Rattle.records.specs.declared.types.Record.{Record}
use Rattle.book.specs.Books.{entry_at, places_of}
use Rattle.book.specs.Walk.{type_at, body_at}
use Rattle.book.proofs.Laws.Entries.{record_there}
use Rattle.book.specs.Settings.{first_record}
use Rattle.falls.specs.Falls.{falls}
use Rattle.falls.specs.declared.types.ShortMonth.{ShortMonth}
use Rattle.occurrences.specs.Rules.{rule_of}
use Rattle.occurrences.proofs.Laws.Rules.{rule-falls}
use Rattle.occurrences.proofs.Laws.Find.{search-shown}
use Rattle.pages.specs.Next.{next_of}
use Rattle.pages.proofs.Laws.Next.{next_same}

-- in range, for a record in range
pub rule_next : (c : ShortMonth) (x : Record) → record_ok x ≡ true → {asked : ℕ} → asked ≤ last_day → next_of (search-shown c (rule_of x)) asked ≡ next_of (λ d. falls c (facts_of d) x) asked
rule_next c x ok {asked} h = next_same (search-shown c (rule_of x)) (λ d. falls c (facts_of d) x) asked h (λ d l. rule-falls c (facts_known d l) x ok)

-- each record of an accepted book is in range
pub record_sound : (f : List ℕ) → first_record ≤ length f → (k : ℕ) → k < length (places_of f) → record_ok (entry_at f (get_or (places_of f) k 0)).«record» ≡ true
unfolding entry_at
record_sound f h k l =
    let at = get_or (places_of f) k 0 in (body_judged (type_at f at) (body_at f at) (record_there f h k l).fine).sound
