-- `lines_size` meets its contract: so much is counted, and so much the codes ahead add, by `lines-on`.
use Rattle.std.proofs.Common.{ℕ, List, ap, arith, drop, get_or, length, length-append, ◌+◌, ◌<◌, ◌≡◌, ◌≤◌}
use Rattle.prelude.specs.Bytes.{bit, stretch_bytes}
use Rattle.days.specs.declared.types.DayFacts.{DayFacts}
use Rattle.book.specs.Books.{entry_at}
use Rattle.falls.specs.Moved.{day_missing}
use Rattle.pages.specs.Codes.{place_in}
use Rattle.printing.specs.Printed.{head_line, page_lines}
use Rattle.printing.specs.Coded.{coded_lines, coded_text}
use Rattle.printing.proofs.Laws.Printed.{lines-on, lines_end}
use Rattle.printing.proofs.types.Coded.lines_size.Goals as goal

-- one line more is counted
added :
    (f : List ℕ) (d : DayFacts) (codes : List ℕ) (i bytes : ℕ) {at n : ℕ} → i < length codes
    → length (page_lines f (coded_lines f d codes)) ≡ bytes + length (page_lines f (coded_lines f d (drop i codes)))
    → n ≡ 13 + bit (day_missing d (entry_at f at).«record») + length (stretch_bytes f (entry_at f at).text) → at ≡ place_in (get_or codes i 0)
    → length (page_lines f (coded_lines f d codes)) ≡ bytes + n + length (page_lines f (coded_lines f d (drop (i + 1) codes)))
added f d codes i bytes h e m a = rw (m, a) (lines-on f d codes i bytes h e)

-- the lines are a part of the page
within : (f : List ℕ) (d : DayFacts) (codes : List ℕ) → length (page_lines f (coded_lines f d codes)) ≤ length (coded_text f d codes)
unfolding coded_text
within f d codes = omega (arith, length-append (head_line d (length codes)) (page_lines f (coded_lines f d codes)))

pub overflow_add-bytes : goal.overflow_add-bytes
overflow_add-bytes c =
    let e = added c.args.self.now.file.now c.args.self.now.facts c.args.self.now.codes.now c.loop-code.code-index c.loop-code.bytes (omega arith) c.loop-code.invariant c.record_size-bytes.ensures c.place_in-at.ensures in
    omega (arith, e, within c.args.self.now.file.now c.args.self.now.facts c.args.self.now.codes.now)

pub loop-code-preserved : goal.loop-code-preserved
loop-code-preserved c =
    added c.args.self.now.file.now c.args.self.now.facts c.args.self.now.codes.now c.loop-code.code-index c.loop-code.bytes (omega arith) c.loop-code.invariant c.record_size-bytes.ensures c.place_in-at.ensures

pub returns : goal.returns
returns c =
    let e = ap length (lines_end c.args.self.now.file.now c.args.self.now.facts c.args.self.now.codes.now c.loop-code.code-index (omega arith)) in
    omega (arith, c.loop-code.invariant, e)
