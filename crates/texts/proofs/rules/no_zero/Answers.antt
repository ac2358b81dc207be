-- `no_zero` meets its contract: of a short text the walk finds no zero.
use Rattle.std.proofs.Common.{rules, ap, not, eqb, ◌∙◌}
use borrow.Author.Tests.{tests}
use Rattle.std.proofs.lemmas.Iterator.{YieldsList-from_slice}
use Rattle.std.proofs.lemmas.Iterator.Search.{any_from_yields_List}
use Rattle.texts.proofs.Laws.Notes.{no_zero-any}
use Rattle.texts.proofs.rules.no_zero.Goals as goal

pub returns-then-s-lt-SHORT_TEXT : goal.returns-then-s-lt-SHORT_TEXT
returns-then-s-lt-SHORT_TEXT c =
    ap not (any_from_yields_List (λ y. eqb y 0) _ _ _ c.any.ensures.ran (YieldsList-from_slice c.args.s.now cc) (λ x b q k. search (rules, tests)))
    ∙ no_zero-any c.args.s.now
