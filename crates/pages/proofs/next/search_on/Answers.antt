-- `search_on` meets its contract: the search by the day found, by `next-of-first`.
use Rattle.std.proofs.Common.{arith, sym, ◌∙◌}
use Rattle.prelude.proofs.Laws.Choice.{is_lt, is_ge}
use Rattle.occurrences.proofs.Laws.Find.{search-shown}
use Rattle.pages.proofs.Laws.Next.{next-of-first}
use Rattle.pages.proofs.next.search_on.Goals as goal

pub returns-in-Some : goal.returns-in-Some
returns-in-Some c = rw c.from.ensures (sym (next-of-first (search-shown c.args.c c.args.r) _ c.requires.high c.in-Some.ensures.1 ∙ is_lt (omega (arith, c.in-Some.ensures.0)) _ _))

pub returns-in-None : goal.returns-in-None
returns-in-None c = rw (c.in-None.is, c.from-looked.ensures) (sym (next-of-first (search-shown c.args.c c.args.r) _ c.requires.high c.in-None.ensures ∙ is_ge (omega arith) _ _))
