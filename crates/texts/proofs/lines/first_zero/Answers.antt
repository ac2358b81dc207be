-- `first_zero` meets its contract: the library's search stops at the first zero.
use Rattle.std.proofs.Common.{rules, add-one, sym, ◌∙◌, ◌≡◌}
use borrow.Author.Tests.{tests}
use Rattle.std.proofs.lemmas.Iterator.{YieldsList-from_slice, IsFirst-from_position, index_from_first}
use Rattle.texts.specs.Lines.{to_zero}
use Rattle.texts.proofs.Laws.Notes.{to_zero_nil, to_zero-zero, to_zero_other}
use Rattle.texts.proofs.lines.first_zero.Goals as goal

pub returns-clause-value : goal.returns-clause-value
returns-clause-value c =
    let found = IsFirst-from_position _ _ _ (λ x. x ≡ 0) (λ x. x ≡ 0 → ⊥) c.position.ensures.ran (YieldsList-from_slice c.args.s.now cc) (λ x q k. search (rules, tests)) (λ x q k. search (rules, tests)) in
    sym (index_from_first to_zero (λ x. x ≡ 0) (λ x. x ≡ 0 → ⊥) to_zero_nil to_zero-zero (λ x xs n. to_zero_other x xs n ∙ sym (add-one (to_zero xs))) c.args.s.now c.position.result found)
