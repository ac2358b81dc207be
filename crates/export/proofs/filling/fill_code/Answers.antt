-- `fill_code` meets its contract: the piece is the record's appointment, and its rule shows where the record is marked.
use Rattle.std.proofs.Common.{Bool, List, ap, arith, drop, get_or, length, length-take, length-take-le, sym, take, ℕ, ◌+◌, ◌<◌, ◌∙◌, ◌≡◌, ◌≤◌}
use Rattle.prelude.specs.Bytes.{bit, stretch_bytes}
use Rattle.prelude.specs.Splice.{splice}
use Rattle.prelude.proofs.Laws.Splice.{take-splice}
use Rattle.book.specs.Books.{entry_at}
use Rattle.falls.specs.Times.{times_of}
use Rattle.falls.specs.declared.types.ShortMonth.{ShortMonth}
use Rattle.pages.specs.Codes.{place_in, decode}
use Rattle.pages.specs.declared.types.Listed.{Listed}
use Rattle.calendar.specs.File.{Appointment, appointment_bytes}
use Rattle.export.specs.Export.{special_time, appointment_of}
use Rattle.calendar.proofs.Laws.File.{length_appointment}
use Rattle.occurrences.specs.Rules.{rule_of, rule_shows}
use Rattle.occurrences.specs.declared.types.Rule.{Rule}
use Rattle.calendar_writer.specs.Scatter.{Added, scatter}
use Rattle.calendar_writer.proofs.Laws.Scatter.{added-same, scatter-same}
use Rattle.texts.specs.Notes.{most_text}
use Rattle.export.specs.Passes.{Sound, marked}
use Rattle.export.proofs.filling.fill_code.Goals as goal

-- the same of a test that agrees and an equal piece
moved : {s t : ℕ → Bool} {xs ys : List ℕ} {n : ℕ} {old new : List ℕ} → ((k : ℕ) → k < n → s k ≡ t k) → xs ≡ ys → Added s (length xs) n old new → Added t (length ys) n old new
moved e q a = rw q at (added-same e a)

spread : {s t : ℕ → Bool} {xs ys : List ℕ} (n : ℕ) (places out : List ℕ) → ((k : ℕ) → k < n → s k ≡ t k) → xs ≡ ys → scatter n s xs places 0 out ≡ scatter n t ys places 0 out
spread {ys} n places out e q = rw q (scatter-same ys places n 0 out (λ k a b. e k (omega arith)))

-- what is listed of the record at a code's place
module _ (f : List ℕ) (code : ℕ) {at : ℕ} (p : at ≡ place_in code) where
  rules : (c : ShortMonth) (days : List ℕ) {r : Rule} → r ≡ rule_of (entry_at f at).«record» → (k : ℕ) → rule_shows c r (get_or days k 0) ≡ marked c days k (decode f code)
  unfolding decode
  rules c days e k = rw (e, p)

  module _ (listed : Listed) (text : listed.text ≡ (entry_at f at).text) {bytes : List ℕ} (b : bytes ≡ stretch_bytes f listed.text) where
    short : Sound f (place_in code) → length bytes ≤ most_text
    short s =
        let e = (entry_at f (place_in code)).text in
        rw (b, text, p) (omega (arith, length-take e.length (drop e.place f), s.short))

    -- the piece that is made of it
    module _ (interval : ℕ) (times : listed.times ≡ times_of (entry_at f at).«record») {flags : ℕ} (g : flags ≡ bit listed.times.alarm + special_time interval listed.times.start.0) where
      abbrev made : Appointment
      made = record { minute = listed.times.start.0; flags = flags; text = bytes }

      lent : {size : ℕ} (o : List ℕ) {left : List ℕ} → size ≡ 0 + length (appointment_bytes made) → left ≡ splice o 0 (appointment_bytes made) → take size left ≡ appointment_bytes (appointment_of f interval (decode f code))
      unfolding appointment_of decode
      lent o n q =
          let same : made ≡ appointment_of f interval (decode f code) = rw (g, b, times, text, p) in
          let whole : take (0 + length (appointment_bytes made)) (splice o 0 (appointment_bytes made)) ≡ appointment_bytes made = take-splice o 0 (appointment_bytes made) (omega arith) in
          rw (n, q) (whole ∙ ap appointment_bytes same)

pub put_appointment-size-requires : goal.put_appointment-size-requires
put_appointment-size-requires c =
    let t = short c.args.filling.now.file.now c.args.code c.place_in-at.ensures c.listed_at-listed.result c.listed_at-listed.ensures.text_value c.of-text.ensures c.requires.sound in
    record { text_len_bound = t; text_in_bounds = omega (arith, t, length_appointment (record { minute = c.listed_at-listed.result.times.start.0; flags = c.flags_of-flags.result; text = c.of-text.result.now })) }

pub slice_bounds-piece-end : goal.slice_bounds-piece-end
slice_bounds-piece-end c =
    let t = short c.args.filling.now.file.now c.args.code c.place_in-at.ensures c.listed_at-listed.result c.listed_at-listed.ensures.text_value c.of-text.ensures c.requires.sound in
    let a = length_appointment (record { minute = c.listed_at-listed.result.times.start.0; flags = c.flags_of-flags.result; text = c.of-text.result.now }) in
    omega (arith, c.put_appointment-size.ensures.next)

pub slice_bounds-put_hits-end : goal.slice_bounds-put_hits-end
slice_bounds-put_hits-end c =
    let t = short c.args.filling.now.file.now c.args.code c.place_in-at.ensures c.listed_at-listed.result c.listed_at-listed.ensures.text_value c.of-text.ensures c.requires.sound in
    let a = length_appointment (record { minute = c.listed_at-listed.result.times.start.0; flags = c.flags_of-flags.result; text = c.of-text.result.now }) in
    sym (length-take-le _ _ (omega (arith, c.put_appointment-size.ensures.next)))

pub put_hits-requires-clause-roomy : goal.put_hits-requires-clause-roomy
put_hits-requires-clause-roomy c =
    let e = rules c.args.filling.now.file.now c.args.code c.place_in-at.ensures c.args.span.now.choice c.args.span.now.days.now c.rule_at-r.ensures in
    let q = lent c.args.filling.now.file.now c.args.code c.place_in-at.ensures c.listed_at-listed.result c.listed_at-listed.ensures.text_value c.of-text.ensures c.args.filling.now.settings.interval c.listed_at-listed.ensures.times_value c.flags_of-flags.ensures _ c.put_appointment-size.ensures.next c.put_appointment-size.ensures.put in
    record { each = λ k l h. rw q (c.requires.roomy.each k l (sym (e k) ∙ h)) }

pub returns : goal.returns
returns c =
    let e = rules c.args.filling.now.file.now c.args.code c.place_in-at.ensures c.args.span.now.choice c.args.span.now.days.now c.rule_at-r.ensures in
    let q = lent c.args.filling.now.file.now c.args.code c.place_in-at.ensures c.listed_at-listed.result c.listed_at-listed.ensures.text_value c.of-text.ensures c.args.filling.now.settings.interval c.listed_at-listed.ensures.times_value c.flags_of-flags.ensures _ c.put_appointment-size.ensures.next c.put_appointment-size.ensures.put in
    record { added = moved (λ k l. e k) q c.put_hits.ensures.added; out_after = c.put_hits.ensures.out_after ∙ spread (length c.args.span.now.days.now) c.args.places.now c.args.out.now (λ k l. e k) q }
