-- `record_size` meets its contract: thirteen bytes, the mark's and the text's, which lies in the file by `entry_inside`.
-- the text is as long as it says
use mir.Val.{bool_byte}
use Rattle.std.proofs.Common.{Bool, true, false, refl, List, ap, arith, length, length-drop, length-take, ℕ, ◌∙◌, ◌≡◌}
use Rattle.prelude.specs.Choice.{if_b}
use Rattle.prelude.specs.Bytes.{bit, stretch_bytes}
use Rattle.records.specs.Fields.{record_of, text_length}
use Rattle.book.specs.Walk.{type_at, body_at}
use Rattle.book.specs.Books.{entry_at}
use Rattle.book.specs.Invariants.{RecordAt}
use Rattle.book.proofs.Laws.Entries.{Inside, entry_inside}
use Rattle.falls.specs.Moved.{day_missing}
use Rattle.printing.proofs.measures.record_size.Goals as goal

whole : (f : List ℕ) (at : ℕ) → RecordAt f at → length (stretch_bytes f (entry_at f at).text) ≡ (entry_at f at).text.length
whole f at r =
    let i : Inside f (entry_at f at) = entry_inside f at r in
    let a = i.text in
    let b = i.note in
    simp (length-take, length-drop) (omega arith)

as_bit : (b : Bool) → bool_byte b ≡ bit b
unfolding bit if_b
as_bit true = refl
as_bit false = refl

pub returns : goal.returns
unfolding entry_at
returns c =
    let m = c.day_missing-moved.ensures ∙ ap (λ (p : List ℕ). day_missing c.args.f (record_of c.kind-t.result p)) c.body-p.ensures
    ∙ ap (λ (t : ℕ). day_missing c.args.f (record_of t (body_at c.args.here.file.now c.args.here.at))) c.kind-t.ensures in
    let b = c.from.ensures ∙ as_bit _ ∙ ap bit m in
    let t : c.from-2.result ≡ text_length (type_at c.args.here.file.now c.args.here.at) (body_at c.args.here.file.now c.args.here.at) = cc in
    omega (arith, b, t, whole c.args.here.file.now c.args.here.at c.args.here.there)
