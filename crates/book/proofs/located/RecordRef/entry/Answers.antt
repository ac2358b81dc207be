-- `entry` meets its contract: its fields are what its callees give.
use Rattle.std.proofs.Common.{refl}
use Rattle.book.specs.Books.{entry_at}
use Rattle.book.proofs.located.RecordRef.entry.Goals as goal

pub returns : goal.returns
unfolding entry_at
returns c = rw (c.record_of-record.ensures, c.kind.ensures, c.body.ensures, c.texts.ensures.0, c.texts.ensures.1) refl
