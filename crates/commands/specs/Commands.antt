-- What the words of a command line ask for, document 01: "Its command line gives a day (page), or a first day and a count (export),
-- in decimal, and may end in the word skip or last; anything else is 11"; document 02, R-3: "from now on the word must be there".
-- Assumes nothing.
use Rattle.std.specs.Prelude.{ℕ, Option, Some, None}
use Rattle.prelude.specs.Choice.{if_eq}
use Rattle.falls.specs.declared.types.ShortMonth.{ShortMonth}
use Rattle.commands.specs.declared.types.Word.{Word}
use Rattle.commands.specs.declared.types.Command.{Command}

-- what is made of a word that is a number; "anything else"
unfoldable pub with_number : Word → (ℕ → Command) → Command
with_number (Word.Number n) make = make n
with_number Word.Skip make = Command.Unknown
with_number Word.Last make = Command.Unknown
with_number Word.Other make = Command.Unknown

-- what is made of a word that names a short-month choice
unfoldable pub with_choice : Word → (ShortMonth → Command) → Command
with_choice (Word.Number n) make = Command.Unknown
with_choice Word.Skip make = make ShortMonth.Skip
with_choice Word.Last make = make ShortMonth.Last
with_choice Word.Other make = Command.Unknown

-- the choice that a word names
abbrev pub choice_in : Word → Option ShortMonth
choice_in (Word.Number n) = None
choice_in Word.Skip = Some ShortMonth.Skip
choice_in Word.Last = Some ShortMonth.Last
choice_in Word.Other = None

-- "a day (page)", and the word
unfoldable pub page_words : Word → Word → Command
page_words a b = with_number a (λ d. with_choice b (λ s. Command.Page d s))

-- "a first day and a count (export)", and the word
unfoldable pub export_words : Word → Word → Word → Command
export_words a b c = with_number a (λ d. with_number b (λ k. with_choice c (λ s. Command.Export d k s)))

-- n words, of which a, b and c are the first three; "anything else"
unfoldable pub command_of : ℕ → Word → Word → Word → Command
command_of n a b c = if_eq n 2 (page_words a b) (if_eq n 3 (export_words a b c) Command.Unknown)
