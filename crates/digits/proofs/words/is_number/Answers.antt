-- `is_number` meets its contract: each byte of a word that is not empty is a digit.
use Rattle.std.proofs.Common.{rules, ◌∙◌, ap, sym, not, eqb-true}
use Rattle.std.proofs.lemmas.Bool.{eqb-false}
use borrow.Author.Tests.{tests}
use Rattle.std.specs.Char.{is_ascii_digit}
use Rattle.std.proofs.lemmas.Iterator.{YieldsList-from_slice}
use Rattle.std.proofs.lemmas.Iterator.Search.{all_from_yields_List}
use Rattle.digits.proofs.Laws.Numbers.{number_empty, number_other, digits_all}
use Rattle.digits.proofs.words.is_number.Goals as goal

pub returns-then-not-is_empty : goal.returns-then-not-is_empty
returns-then-not-is_empty c =
    all_from_yields_List is_ascii_digit _ _ _ c.all.ensures.ran (YieldsList-from_slice c.args.w.now cc) (λ x b q k. search (rules, tests))
    ∙ digits_all c.args.w.now ∙ sym (number_other c.args.w.now (eqb-false _ _ (sym c.if-not-is_empty.ensures)))

pub returns-else-not-is_empty : goal.returns-else-not-is_empty
returns-else-not-is_empty c = ap not c.if-not-is_empty.false ∙ sym (number_empty c.args.w.now (eqb-true _ _ (sym c.if-not-is_empty.ensures)))
