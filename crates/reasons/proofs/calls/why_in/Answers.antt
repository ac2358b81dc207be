-- `why_in` meets its contract: the record of that number, by `nth-record`, or none.
use Rattle.std.proofs.Common.{Ok, ap, arith, sym, ℕ, ◌∙◌}
use Rattle.book.specs.Books.{entry_at}
use Rattle.book.proofs.Laws.Entries.{record_there}
use Rattle.pages.proofs.Laws.Nth.{nth-record, nth-no-record}
use Rattle.reasons.specs.Answers.{why_in}
use Rattle.reasons.specs.Reasons.{reason_of}
use Rattle.reasons.proofs.calls.why_in.Goals as goal

pub invariant_of-reason_at : goal.invariant_of-reason_at
invariant_of-reason_at c = record { there = rw c.place_of-at.ensures.0 (record_there _ c.requires.long _ (omega arith)) }

pub returns-then-k-a : goal.returns-then-k-a
unfolding why_in
returns-then-k-a c = ap Ok (c.reason_at.ensures ∙ ap (λ (q : ℕ). reason_of c.args.c c.args.a.facts (entry_at c.args.file.now q).«record») c.place_of-at.ensures.0) ∙ sym (nth-record _ _ _ _ (omega arith))

pub returns-else-k-a : goal.returns-else-k-a
unfolding why_in
returns-else-k-a c = sym (nth-no-record _ _ _ _ (omega arith))
