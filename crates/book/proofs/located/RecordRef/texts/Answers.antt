-- `texts` meets its contract: the fixed bytes of a judged record are there, and say where text and note lie.
use Rattle.std.proofs.Common.{ap, arith, length, refl}
use Rattle.records.proofs.Laws.Judged.{fixed_range, body_judged}
use Rattle.records.specs.Fields.{fixed_of}
use Rattle.book.specs.Books.{entry_at}
use Rattle.book.proofs.located.RecordRef.texts.Goals as goal

pub overflow_add-text-2 : goal.overflow_add-text-2
overflow_add-text-2 c = omega (arith, fixed_range c.kind.result)

pub overflow_sub-fixed : goal.overflow_sub-fixed
overflow_sub-fixed c = omega (arith, fixed_range c.kind.result)

pub bounds-body-fixed : goal.bounds-body-fixed
bounds-body-fixed c = omega (arith, fixed_range c.kind.result, ap fixed_of c.kind.ensures, (body_judged _ _ c.args.self.there.fine).fits, ap length c.body-body.ensures)

pub overflow_sub-fixed-2 : goal.overflow_sub-fixed-2
overflow_sub-fixed-2 c = omega (arith, fixed_range c.kind.result)

pub word_in-requires : goal.word_in-requires
word_in-requires c = omega (arith, fixed_range c.kind.result, ap fixed_of c.kind.ensures, (body_judged _ _ c.args.self.there.fine).fits, ap length c.body-body.ensures)

pub returns : goal.returns
unfolding entry_at
returns c = (
  rw (c.from.ensures, c.fixed_of-fixed.ensures, c.body-body.ensures, c.kind.ensures) refl,
  rw (c.from.ensures, c.from-2.ensures, c.word_in.ensures, c.fixed_of-fixed.ensures, c.body-body.ensures, c.kind.ensures) refl,
)
