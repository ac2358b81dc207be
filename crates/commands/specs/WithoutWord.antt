-- A command line without the word, document 02, R-3: "from now on the word must be there, and without it the answer is 11".
-- Assumes nothing.
use Rattle.std.specs.Prelude.{ℕ, ◌≡◌, Bool, true, false, List, [], ◌∷◌, length, get_or}
use Rattle.book.specs.Books.{book_of}
use Rattle.commands.specs.Commands.{command_of}
use Rattle.commands.specs.Responses.{other_response, response}
use Rattle.commands.specs.declared.types.Word.{Word}
use Rattle.commands.specs.declared.types.Command.{Command}

-- "the word skip or last"
unfoldable pub names_choice : Word → Bool
names_choice (Word.Number n) = false
names_choice Word.Skip = true
names_choice Word.Last = true
names_choice Word.Other = false

-- whether a command line of any number of words ends in that word
unfoldable pub ends_in_choice : List Word → Bool
ends_in_choice [] = false
ends_in_choice (a ∷ []) = names_choice a
ends_in_choice (a ∷ b ∷ line) = ends_in_choice (b ∷ line)

-- what a command line asks for: the number of its words and the first three say it, and what is not there is no word
unfoldable pub line_command : List Word → Command
line_command line = command_of (length line) (get_or line 0 Word.Other) (get_or line 1 Word.Other) (get_or line 2 Word.Other)

-- "without it the answer is 11": on any book, after the book's own refusals
abbrev pub WithoutWord : List ℕ → List Word → Type 0
WithoutWord f line = ends_in_choice line ≡ false → response f (line_command line) ≡ other_response (book_of f)
