-- `export` meets its contract: the book decides, then the span, and demand 3 is the theorem of crate `export`, by `demand-3-promised`.
use Rattle.std.proofs.Common.{ap, arith, length, refl, sym, ℕ, ◌∙◌}
use Rattle.prelude.proofs.Laws.Choice.{is_true, is_false}
use Rattle.prelude.proofs.Laws.Results.{err_passed}
use Rattle.export.specs.Export.{export_file, span_answer, export_from, leaves_file, shows_under}
use Rattle.export.proofs.Laws.Answers.{span-facts}
use Rattle.export.proofs.Laws.Theorem.{demand-3-promised}
use Rattle.export.proofs.Laws.Export.{export-answer-from, export-leaves-from, first_facts, first_day_not_refused, span-leaves-leaves-file}
use Rattle.export.proofs.calls.export.Goals as goal

pub returns-in_err-book : goal.returns-in_err-book
unfolding export_from leaves_file
returns-in_err-book c =
    let p = err_passed c.from_residual.ensures.1 in
    let e = export-answer-from (shows_under c.args.c) c.args.file.now c.args.first.0 c.args.count c.args.out.now (sym c.read_book.ensures ∙ c.in_err-book.was) p in
    let l = export-leaves-from (shows_under c.args.c) c.args.file.now c.args.first.0 c.args.count c.args.out.now e (rw p) in
    record { value = e; out_after = l; demand3 = demand-3-promised (shows_under c.args.c) c.args.file.now c.args.first.0 c.args.count c.args.out.now e l }

pub returns-then-not-span_ok : goal.returns-then-not-span_ok
unfolding export_from leaves_file
returns-then-not-span_ok c =
    let p = sym (is_false (sym c.span_ok.ensures ∙ c.if-not-span_ok.true) _ _) in
    let e = export-answer-from (shows_under c.args.c) c.args.file.now c.args.first.0 c.args.count c.args.out.now (sym c.read_book.ensures ∙ c.in_ok-book.was) p in
    let l = export-leaves-from (shows_under c.args.c) c.args.file.now c.args.first.0 c.args.count c.args.out.now e refl in
    record { value = e; out_after = l; demand3 = demand-3-promised (shows_under c.args.c) c.args.file.now c.args.first.0 c.args.count c.args.out.now e l }

pub returns-in_err-facts_of_day : goal.returns-in_err-facts_of_day
returns-in_err-facts_of_day c =
    let s = span-facts (sym c.span_ok.ensures ∙ c.if-not-span_ok.false) in
    absurd (first_day_not_refused c.args.first.0 s.day (sym c.facts_of_day.ensures ∙ c.in_err-facts_of_day.was))

pub export_span-requires : goal.export_span-requires
export_span-requires c =
    let s = span-facts (sym c.span_ok.ensures ∙ c.if-not-span_ok.false) in
    let g = first_facts c.args.first.0 (sym c.facts_of_day.ensures ∙ c.in_ok-facts_of_day.was) in
    record { book = sym c.read_book.ensures ∙ c.in_ok-book.was; facts = g.facts; end = omega (arith, g.day, s.end); most = omega (arith, s.most) }

pub returns : goal.returns
unfolding export_from
returns c =
    let d = (first_facts c.args.first.0 (sym c.facts_of_day.ensures ∙ c.in_ok-facts_of_day.was)).day in
    let value =
    c.export_span.ensures.value
    ∙ ap (λ (n : ℕ). span_answer (shows_under c.args.c) c.args.file.now c.in_ok-facts_of_day.field-0.day.0 n (length c.args.out.now)) c.from.ensures
    ∙ ap (λ (n : ℕ). span_answer (shows_under c.args.c) c.args.file.now n c.args.count (length c.args.out.now)) d
    ∙ sym (is_true (sym c.span_ok.ensures ∙ c.if-not-span_ok.false) _ _) in
    let left =
    span-leaves-leaves-file (shows_under c.args.c) c.args.file.now _ c.from.result c.args.out.now c.export_span.ensures.value c.export_span.ensures.out_after
    ∙ ap (λ (n : ℕ). leaves_file (export_file (shows_under c.args.c) c.args.file.now c.in_ok-facts_of_day.field-0.day.0 n) c.args.out.now c.export_span.result) c.from.ensures
    ∙ ap (λ (n : ℕ). leaves_file (export_file (shows_under c.args.c) c.args.file.now n c.args.count) c.args.out.now c.export_span.result) d in
    let e = export-answer-from (shows_under c.args.c) c.args.file.now c.args.first.0 c.args.count c.args.out.now (sym c.read_book.ensures ∙ c.in_ok-book.was) value in
    let l = export-leaves-from (shows_under c.args.c) c.args.file.now c.args.first.0 c.args.count c.args.out.now e left in
    record { value = e; out_after = l; demand3 = demand-3-promised (shows_under c.args.c) c.args.file.now c.args.first.0 c.args.count c.args.out.now e l }
