-- `note_lines` meets its contract: the note's answer decides.
use Rattle.std.proofs.Common.{Ok, List, ap, length, sym, ℕ, ◌∙◌}
use Rattle.prelude.proofs.Laws.Results.{err_passed}
use Rattle.texts.specs.Notes.{lines_of}
use Rattle.book.specs.Lines.{lines_in, lines_answer}
use Rattle.book.proofs.lines.note_lines.Goals as goal

pub returns-in_err-note : goal.returns-in_err-note
unfolding lines_answer lines_in
returns-in_err-note c = err_passed c.from_residual.ensures.1 ∙ ap (lines_in _) (sym (sym c.note_of.ensures ∙ c.in_err-note.was))

pub returns : goal.returns
unfolding lines_answer lines_in
returns c = ap Ok (c.line_count.ensures ∙ ap (λ (n : List ℕ). length (lines_of n)) c.of.ensures) ∙ ap (lines_in _) (sym (sym c.note_of.ensures ∙ c.in_ok-note.was))
