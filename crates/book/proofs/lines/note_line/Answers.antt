-- `note_line` meets its contract: the note's answer decides, the note lies in the file, and a line lies inside the note.
use Rattle.std.proofs.Common.{Ok, List, ap, arith, drop, length, length-take, refl, sym, ℕ, ◌+◌, ◌≤◌, ◌∙◌, ◌≡◌}
use Rattle.prelude.proofs.Laws.Choice.{lt_yes, lt_no}
use Rattle.prelude.proofs.Laws.Results.{err_passed}
use Rattle.prelude.specs.Bytes.{stretch_bytes}
use Rattle.prelude.specs.declared.slices.Stretch.{Stretch}
use Rattle.texts.specs.Notes.{lines_of}
use Rattle.texts.specs.Lines.{line_at}
use Rattle.texts.proofs.Laws.Lines.{line_inside}
use Rattle.book.specs.Lines.{note_line_of, note_line_in, line_answer}
use Rattle.book.proofs.Laws.Notes.{note_inside}
use Rattle.book.proofs.lines.note_line.Goals as goal

pub returns-in_err-note : goal.returns-in_err-note
unfolding line_answer note_line_in
returns-in_err-note c = err_passed c.from_residual.ensures.1 ∙ ap (note_line_in _ _) (sym (sym c.note_of.ensures ∙ c.in_err-note.was))

pub returns-then-j-line_count : goal.returns-then-j-line_count
unfolding line_answer note_line_in note_line_of
returns-then-j-line_count c =
    let lines : c.line_count.result ≡ length (lines_of (stretch_bytes c.args.file.now c.in_ok-note.note)) = c.line_count.ensures ∙ ap (λ (n : List ℕ). length (lines_of n)) c.of-bytes.ensures in
    lt_no _ _ _ (omega arith) refl ∙ ap (note_line_in _ _) (sym (sym c.note_of.ensures ∙ c.in_ok-note.was))

pub overflow_add-result : goal.overflow_add-result
overflow_add-result c =
    let inside : c.in_ok-note.note.place + c.in_ok-note.note.length ≤ length c.args.file.now = note_inside _ _ (sym c.note_of.ensures ∙ c.in_ok-note.was) in
    omega (arith, ap (λ (s : Stretch). s.place) c.line_at-line.ensures, line_inside c.of-bytes.result.now c.args.j, ap length c.of-bytes.ensures, length-take c.in_ok-note.note.length (drop c.in_ok-note.note.place c.args.file.now))

pub returns : goal.returns
unfolding line_answer note_line_in note_line_of
returns c =
    let lines : c.line_count.result ≡ length (lines_of (stretch_bytes c.args.file.now c.in_ok-note.note)) = c.line_count.ensures ∙ ap (λ (n : List ℕ). length (lines_of n)) c.of-bytes.ensures in
    let line = c.line_at-line.ensures ∙ ap (λ (n : List ℕ). line_at n c.args.j) c.of-bytes.ensures in
    lt_yes _ _ _ (omega arith) (ap (λ (l : Stretch). Ok (record { place = c.in_ok-note.note.place + l.place; length = l.length })) line)
    ∙ ap (note_line_in _ _) (sym (sym c.note_of.ensures ∙ c.in_ok-note.was))
