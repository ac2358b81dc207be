-- `take_in` meets its contract: the record's times and text make its weight and its code.
use Rattle.std.proofs.Common.{ap, arith, sym, ◌∙◌, ◌≡◌, ◌≤◌}
use Rattle.prelude.proofs.Laws.Bytes.{bit_most}
use Rattle.prelude.specs.declared.slices.Stretch.{Stretch}
use Rattle.falls.specs.declared.types.Times.{Times}
use Rattle.pages.specs.Invariants.{record_at}
use Rattle.pages.specs.Codes.{code_with}
use Rattle.pages.proofs.Laws.Codes.{code_at}
use Rattle.export.specs.Passes.{weighs}
use Rattle.texts.specs.Notes.{most_text}
use Rattle.export.proofs.collecting.take_in.Goals as goal

pub add_hits-requires : goal.add_hits-requires
add_hits-requires c =
    let l : c.listed_at-listed.result.text.length ≤ most_text = omega (arith, ap (λ (x : Stretch). x.length) c.listed_at-listed.ensures.text_value, c.requires.sound.short) in
    record { sums_len = c.requires.sums_len; next = c.requires.next; w_le_most_weight = omega (arith, c.weight_of-w.ensures, bit_most c.listed_at-listed.result.times.alarm); at_most = c.requires.at_most }

pub returns : goal.returns
returns c =
    let weight : c.weight_of-w.result ≡ weighs (record_at c.args.file.now c.args.number c.args.at) =
    c.weight_of-w.ensures ∙ rw (c.listed_at-listed.ensures.times_value, c.listed_at-listed.ensures.text_value) in
    record { value = c.code_of.ensures ∙ ap (λ (x : Times). code_with x.start.0 c.args.number c.args.at) c.listed_at-listed.ensures.times_value ∙ sym (code_at c.args.file.now c.args.number c.args.at (omega arith) (omega (arith, c.requires.sound.place))); added = rw weight at c.add_hits.ensures }
