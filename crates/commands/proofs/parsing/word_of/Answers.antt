-- `word_of` meets its contract: each return is the choice that its tests make, by `spelled_by`.
use Rattle.std.proofs.Common.{ap, refl}
use Rattle.prelude.proofs.Laws.Choice.{if_by_true, if_by_false}
use Rattle.commands.specs.Words.{word_of}
use Rattle.commands.specs.declared.types.Word.{Word}
use Rattle.commands.proofs.Spelled.{spelled_by}
use Rattle.commands.proofs.parsing.word_of.Goals as goal

pub returns-then-is_number : goal.returns-then-is_number
unfolding word_of
returns-then-is_number c = if_by_true _ _ _ c.is_number.ensures c.if-is_number.true (ap Word.Number c.number_of.ensures)

pub returns-then-eq : goal.returns-then-eq
unfolding word_of
returns-then-eq c =
    if_by_false _ _ _ c.is_number.ensures c.if-is_number.false
    (if_by_true _ _ _ (spelled_by _ _ _ _ _ _ c.eq.ensures c.as_slice.ensures) c.if-eq.true refl)

pub returns-then-eq-2 : goal.returns-then-eq-2
unfolding word_of
returns-then-eq-2 c =
    if_by_false _ _ _ c.is_number.ensures c.if-is_number.false
    (if_by_false _ _ _ (spelled_by _ _ _ _ _ _ c.eq.ensures c.as_slice.ensures) c.if-eq.false
    (if_by_true _ _ _ (spelled_by _ _ _ _ _ _ c.eq-else-eq.ensures c.as_slice-else-eq.ensures) c.if-eq-2.true refl))

pub returns-else-eq-2 : goal.returns-else-eq-2
unfolding word_of
returns-else-eq-2 c =
    if_by_false _ _ _ c.is_number.ensures c.if-is_number.false
    (if_by_false _ _ _ (spelled_by _ _ _ _ _ _ c.eq.ensures c.as_slice.ensures) c.if-eq.false
    (if_by_false _ _ _ (spelled_by _ _ _ _ _ _ c.eq-else-eq.ensures c.as_slice-else-eq.ensures) c.if-eq-2.false refl))
