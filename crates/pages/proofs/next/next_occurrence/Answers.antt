-- `next_occurrence` meets its contract: the book and the day decide, then the record of that number, by `nth-record`, searched by its rule, or none.
use Rattle.std.proofs.Common.{Ok, ap, arith, sym, ℕ, ◌∙◌}
use Rattle.book.specs.Books.{entry_at}
use Rattle.occurrences.specs.Rules.{rule_of}
use Rattle.occurrences.proofs.Laws.Find.{search-shown}
use Rattle.occurrences.specs.declared.types.Rule.{Rule}
use Rattle.pages.specs.Answers.{next_in}
use Rattle.pages.specs.Next.{next_of}
use Rattle.pages.specs.Pages.{falls_on}
use Rattle.pages.proofs.Laws.Pages.{validated_ready}
use Rattle.pages.proofs.Laws.Nth.{nth-record, nth-no-record}
use Rattle.pages.proofs.Laws.Search.{rule_next, record_sound}
use Rattle.pages.proofs.next.next_occurrence.Goals as goal

pub returns-then-a-k : goal.returns-then-a-k
unfolding next_in
returns-then-a-k c =
    let e = sym c.validate.ensures ∙ c.in_ok-a.was in
    let r = validated_ready _ _ e in
    sym (ap (next_in (falls_on c.args.c) c.args.file.now c.args.k) e ∙ nth-no-record _ _ _ _ (omega arith))

pub place_of-at-requires : goal.place_of-at-requires
place_of-at-requires c = let r = validated_ready _ _ (sym c.validate.ensures ∙ c.in_ok-a.was) in record { first_record_in_bounds = omega arith; k_in_bounds = omega arith }

pub rule_at-requires : goal.rule_at-requires
rule_at-requires c = let r = validated_ready _ _ (sym c.validate.ensures ∙ c.in_ok-a.was) in omega arith

pub search_on-requires : goal.search_on-requires
search_on-requires c = let r = validated_ready _ _ (sym c.validate.ensures ∙ c.in_ok-a.was) in record { facts = r.facts; high = r.day }

pub returns : goal.returns
unfolding next_in
returns c =
    let e = sym c.validate.ensures ∙ c.in_ok-a.was in
    let r = validated_ready _ _ e in
    let read = c.rule_at.ensures ∙ ap (λ (at : ℕ). rule_of (entry_at c.args.file.now at).«record») c.place_of-at.ensures.0 in
    ap Ok (c.search_on.ensures ∙ ap (λ (r : Rule). next_of (search-shown c.args.c r) c.in_ok-a.a.facts.day.0) read ∙ rule_next _ _ (record_sound _ r.long _ (omega arith)) r.day)
    ∙ sym (ap (next_in (falls_on c.args.c) c.args.file.now c.args.k) e ∙ nth-record _ _ _ _ (omega arith))
