-- `collect` meets its contract: a record that shows is taken in, another is passed, by the laws of `Collecting`.
use Rattle.std.proofs.Common.{ap, arith, get_or, length-set, refl, ◌∙◌}
use Rattle.book.proofs.Laws.Books.{cursor-ahead}
use Rattle.book.proofs.Laws.Counts.{count_most}
use Rattle.occurrences.specs.Rules.{rule_shows}
use Rattle.occurrences.specs.declared.types.Rule.{Rule}
use Rattle.pages.proofs.Laws.Codes.{codes_behind}
use Rattle.occurrences.proofs.Laws.After.{next_ahead}
use Rattle.export.proofs.Laws.Collecting.{collect_start, collect-sound, collect-skip, collect-take, collect-end}
use Rattle.export.proofs.collecting.collect.Goals as goal
use Rattle.export.proofs.collecting.collect.Goals.{then-from-span, else-from-span}

pub loop-number-init : goal.loop-number-init
loop-number-init c = (collect_start _ _ _ _ _ c.requires.counted_book.long c.requires.sums_len c.requires.at_most, refl, refl)

pub invariant_of-here : goal.invariant_of-here
invariant_of-here c = record { there = (cursor-ahead _ _ _ c.loop-number.invariant.0.cursor (omega (arith, c.requires.counted_book.count))).entry }

pub take_in-requires-clause-sound : goal.take_in-requires-clause-sound
take_in-requires-clause-sound c = collect-sound c.loop-number.invariant.0 c.requires.counted_book (omega arith)

pub take_in-requires-clause-number_lt_most_records : goal.take_in-requires-clause-number_lt_most_records
take_in-requires-clause-number_lt_most_records c = omega (arith, count_most c.args.file.now c.requires.counted_book.long, c.requires.counted_book.size, c.requires.counted_book.count)

pub take_in-requires-clause-next : goal.take_in-requires-clause-next
take_in-requires-clause-next c = next_ahead _ _ c.on_to-start.ensures c.next_from-from.ensures

pub take_in-requires-clause-at_most : goal.take_in-requires-clause-at_most
take_in-requires-clause-at_most c =
    record { each = λ k i. omega (arith, c.loop-number.invariant.0.below.each k i, count_most c.args.file.now c.requires.counted_book.long, c.requires.counted_book.size, c.requires.counted_book.count) }

pub loop-number-preserved : goal.loop-number-preserved
loop-number-preserved c =
    elim c.if-from-span.branch [
      | then-from-span w ↦ rw (w.count-is, w.codes-is, w.sums-is) (
        collect-take c.loop-number.invariant.0 c.requires.counted_book (omega arith)
            (λ k i. ap (λ (r : Rule). rule_shows c.args.span.now.choice r (get_or c.args.span.now.days.now k 0)) c.rule_at-r.ensures)
            c.next_place-at.ensures (next_ahead _ _ c.on_to-start.ensures c.next_from-from.ensures) (omega arith) (omega (arith, c.loop-number.invariant.0.few)) w.take_in.ensures.value w.take_in.ensures.added,
        length-set c.loop-number.codes c.loop-number.count w.take_in.result ∙ c.loop-number.invariant.1,
        codes_behind c.loop-number.codes _ c.loop-number.count w.take_in.result c.loop-number.invariant.2,
      )
      | else-from-span w ↦ rw (w.count-is, w.codes-is, w.sums-is) (
        collect-skip c.loop-number.invariant.0 c.requires.counted_book (omega arith)
            (λ k i. ap (λ (r : Rule). rule_shows c.args.span.now.choice r (get_or c.args.span.now.days.now k 0)) c.rule_at-r.ensures)
            c.next_place-at.ensures (next_ahead _ _ c.on_to-start.ensures c.next_from-from.ensures) (omega arith),
        c.loop-number.invariant.1,
        c.loop-number.invariant.2,
      )
    ]

pub returns : goal.returns
returns c =
    let e = collect-end c.loop-number.invariant.0 c.requires.counted_book (omega arith) in
    record { upper_bound = omega (arith, c.loop-number.invariant.0.few, c.requires.records_in_bounds); codes_after = e.0; codes_unchanged = c.loop-number.invariant.2; weighed = e.1 }
