-- `record_falls` meets its contract: the book and the day decide, then the record of that number, by `nth-record`, or none.
use Rattle.std.proofs.Common.{Ok, ap, arith, sym, ℕ, ◌∙◌}
use Rattle.book.specs.Books.{entry_at}
use Rattle.book.proofs.Laws.Entries.{record_there}
use Rattle.falls.specs.Moved.{falling}
use Rattle.pages.specs.Answers.{falls_in}
use Rattle.pages.proofs.Laws.Pages.{validated_ready}
use Rattle.pages.proofs.Laws.Nth.{nth-record, nth-no-record}
use Rattle.pages.proofs.next.record_falls.Goals as goal

pub returns-then-a-k : goal.returns-then-a-k
unfolding falls_in
returns-then-a-k c =
    let e = sym c.validate.ensures ∙ c.in_ok-a.was in
    let r = validated_ready _ _ e in
    sym (ap (falls_in _ _ _) e ∙ nth-no-record _ _ _ _ (omega arith))

pub place_of-at-requires : goal.place_of-at-requires
place_of-at-requires c = let r = validated_ready _ _ (sym c.validate.ensures ∙ c.in_ok-a.was) in record { first_record_in_bounds = omega arith; k_in_bounds = omega arith }

pub invariant_of-falling_at : goal.invariant_of-falling_at
invariant_of-falling_at c =
    let r = validated_ready _ _ (sym c.validate.ensures ∙ c.in_ok-a.was) in
    record { there = rw c.place_of-at.ensures.0 (record_there _ r.long _ (omega arith)) }

pub returns : goal.returns
unfolding falls_in
returns c =
    let e = sym c.validate.ensures ∙ c.in_ok-a.was in
    let r = validated_ready _ _ e in
    ap Ok (c.falling_at.ensures ∙ ap (λ (q : ℕ). falling c.args.c c.in_ok-a.a.facts (entry_at c.args.file.now q).«record») c.place_of-at.ensures.0)
    ∙ sym (ap (falls_in _ _ _) e ∙ nth-record _ _ _ _ (omega arith))
