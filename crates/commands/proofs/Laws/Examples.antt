-- Command lines and answers of the project's own size, as the definitions compute them.
-- Assumes nothing.
use Rattle.std.specs.Prelude.{◌≡◌, refl, true, false, [], ◌∷◌, ◌++◌}
use Rattle.prelude.specs.Choice.{if_lt, if_eq, if_b}
use Rattle.prelude.specs.Refusals.{out_of_range, refusal}
use Rattle.digits.specs.Digits.{decimal_f, decimal, value_from, value, all_digits, is_number, capped}
use Rattle.book.proofs.Laws.Examples.{case, case-accepted}
use Rattle.falls.specs.declared.types.ShortMonth.{ShortMonth}
use Rattle.pages.specs.Answers.{validated_day, validated}
use Rattle.printing.proofs.Laws.Examples.{case_head, case_line, case_page}
use Rattle.export.proofs.Laws.Examples.{case_file, case_answers}
use Rattle.commands.specs.Words.{spelled, word_of}
use Rattle.commands.specs.Commands.{with_number, with_choice, page_words, export_words, command_of}
use Rattle.commands.specs.Responses.{refusal_text, page_response, export_text, export_response, response}
use Rattle.commands.specs.WithoutWord.{names_choice, ends_in_choice, line_command}
use Rattle.commands.specs.declared.types.Word.{Word}
use Rattle.commands.specs.declared.types.Command.{Command}
use Rattle.calendar.proofs.Laws.Examples as calendar

-- 004822, skip, last; Skip, the empty word and -1 are nothing
pub words :
    (word_of (0x30 ∷ 0x30 ∷ 0x34 ∷ 0x38 ∷ 0x32 ∷ 0x32 ∷ []) ≡ Word.Number 4822) × (word_of (0x73 ∷ 0x6B ∷ 0x69 ∷ 0x70 ∷ []) ≡ Word.Skip) × (word_of (0x6C ∷ 0x61 ∷ 0x73 ∷ 0x74 ∷ []) ≡ Word.Last) × (word_of (0x53 ∷ 0x6B ∷ 0x69 ∷ 0x70 ∷ []) ≡ Word.Other) × (word_of [] ≡ Word.Other) × (word_of (0x2D ∷ 0x31 ∷ []) ≡ Word.Other)
unfolding word_of spelled is_number all_digits value value_from capped if_lt if_eq if_b
words = (refl, refl, refl, refl, refl, refl)

-- a day and the word; a first day, a count and the word
pub commands :
    (line_command (Word.Number 4822 ∷ Word.Skip ∷ []) ≡ Command.Page 4822 ShortMonth.Skip) × (line_command (Word.Number 4822 ∷ Word.Last ∷ []) ≡ Command.Page 4822 ShortMonth.Last) × (line_command (Word.Number 4822 ∷ Word.Number 7 ∷ Word.Skip ∷ []) ≡ Command.Export 4822 7 ShortMonth.Skip) × (line_command (Word.Number 4822 ∷ Word.Number 7 ∷ Word.Last ∷ []) ≡ Command.Export 4822 7 ShortMonth.Last)
unfolding line_command command_of page_words export_words with_number with_choice if_eq
commands = (refl, refl, refl, refl)

-- R-3, without the word: a day; a first day and a count; three numbers
pub numbers_alone :
    (line_command (Word.Number 4822 ∷ []) ≡ Command.Unknown) × (line_command (Word.Number 4822 ∷ Word.Number 7 ∷ []) ≡ Command.Unknown) × (line_command (Word.Number 1 ∷ Word.Number 2 ∷ Word.Number 3 ∷ []) ≡ Command.Unknown)
unfolding line_command command_of page_words export_words with_number with_choice if_eq
numbers_alone = (refl, refl, refl)

-- nothing, the word alone, the word before its number, four words
pub others :
    (line_command [] ≡ Command.Unknown) × (line_command (Word.Skip ∷ []) ≡ Command.Unknown) × (line_command (Word.Skip ∷ Word.Number 4822 ∷ []) ≡ Command.Unknown) × (line_command (Word.Number 1 ∷ Word.Number 2 ∷ Word.Number 3 ∷ Word.Skip ∷ []) ≡ Command.Unknown)
unfolding line_command command_of page_words export_words with_number with_choice if_eq
others = (refl, refl, refl, refl)

-- the word is there only as the last one
pub word_at_the_end :
    (ends_in_choice (Word.Number 4822 ∷ Word.Last ∷ []) ≡ true) × (ends_in_choice (Word.Number 4822 ∷ Word.Number 7 ∷ Word.Skip ∷ []) ≡ true) × (ends_in_choice (Word.Last ∷ Word.Number 4822 ∷ []) ≡ false) × (ends_in_choice (Word.Number 4822 ∷ []) ≡ false) × (ends_in_choice (Word.Number 4822 ∷ Word.Other ∷ []) ≡ false) × (ends_in_choice [] ≡ false)
unfolding ends_in_choice names_choice
word_at_the_end = (refl, refl, refl, refl, refl, refl)

-- "11 0"
pub refused : refusal_text (refusal out_of_range) ≡ 0x31 ∷ 0x31 ∷ 0x20 ∷ 0x30 ∷ 0x0A ∷ []
unfolding refusal_text decimal decimal_f if_lt
refused = refl

-- "One whole case": the two lines
pub case_answer : response case (Command.Page 4822 ShortMonth.Skip) ≡ case_head ++ case_line
unfolding response page_response validated validated_day if_lt
case_answer = rw (case-accepted, case_page)

-- its export, 192 bytes
pub case_exported : response case (Command.Export 4820 7 ShortMonth.Skip) ≡ calendar.case
unfolding response export_response export_text
case_exported = rw (case_answers.2, case_file)
