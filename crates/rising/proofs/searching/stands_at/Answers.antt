-- `stands_at` meets its contract: a number stands at its place or nowhere.
use Rattle.std.proofs.Common.{arith, le-ltb, sym, ◌∙◌}
use Rattle.prelude.proofs.Laws.Choice.{is_lt, is_ge}
use Rattle.rising.proofs.Laws.Rising.{split-contains, eq_test}
use Rattle.rising.proofs.searching.stands_at.Goals as goal

pub returns-then-place-list : goal.returns-then-place-list
returns-then-place-list c = sym (split-contains _ _ _ c.requires.rising c.requires.split ∙ is_lt (omega arith) _ _ ∙ eq_test _ _)

pub returns-else-place-list : goal.returns-else-place-list
returns-else-place-list c = le-ltb _ _ (omega arith) ∙ sym (split-contains _ _ _ c.requires.rising c.requires.split ∙ is_ge (omega arith) _ _)
