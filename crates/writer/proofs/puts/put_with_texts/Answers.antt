-- `put_with_texts` meets its contract: each copy goes on where the one before it ended.
use Rattle.std.proofs.Common.{append_assoc, arith, length-append, ◌++◌}
use Rattle.prelude.proofs.Laws.Splice.{splice-then}
use Rattle.writer.proofs.puts.put_with_texts.Goals as goal

pub returns : goal.returns
returns c =
    let l = length-append c.args.head.now (c.args.texts.text.now ++ c.args.texts.note.now) in
    let m = length-append c.args.texts.text.now c.args.texts.note.now in
    let e = length-append c.args.head.now c.args.texts.text.now in
    let ab = splice-then _ _ _ _ _ _ _ (omega arith) c.copy_in-second.ensures.next c.copy_in-second.ensures.put c.copy_in-third.ensures.put in
    let abc = splice-then _ _ (c.args.head.now ++ c.args.texts.text.now) _ _ _ _ (omega arith) (omega arith) ab c.copy_in.ensures.put in
    record { next = omega arith; put = rw append_assoc at abc }
