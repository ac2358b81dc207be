-- What the program writes, document 01 "What we read, write and show": "a day page or a Calendar file", or a refusal.
-- Assumes nothing.
use Rattle.std.specs.Prelude.{Result, Ok, Err, ℕ, List, [], ◌∷◌, ◌++◌, length}
use Rattle.prelude.specs.Choice.{if_lt}
use Rattle.prelude.specs.Refusals.{out_of_range, no_room, refusal}
use Rattle.prelude.specs.declared.refusals.Refusal.{Refusal}
use Rattle.digits.specs.Digits.{decimal}
use Rattle.book.specs.Books.{book_of}
use Rattle.falls.specs.declared.types.ShortMonth.{ShortMonth}
use Rattle.pages.specs.Answers.{validated}
use Rattle.pages.specs.Pages.{falls_on}
use Rattle.printing.specs.Printed.{newline, space, page_text}
use Rattle.export.specs.Export.{export_file, export_answer, shows_under}
use Rattle.commands.specs.declared.types.Command.{Command}
use Rattle.book.specs.declared.types.Book.{Book}
use Rattle.pages.specs.declared.types.Ready.{Ready}

-- "A refusal is printed as number, space, place, 0Ah."
unfoldable pub refusal_text : Refusal → List ℕ
refusal_text e = decimal e.number ++ (space ∷ (decimal e.place ++ (newline ∷ [])))

-- a day page, in so many bytes of room
unfoldable pub page_response : List ℕ → ShortMonth → ℕ → Result Ready Refusal → List ℕ
page_response f c room (Ok a) =
    if_lt room (length (page_text (falls_on c) f a.facts)) (refusal_text (refusal no_room)) (page_text (falls_on c) f a.facts)
page_response f c room (Err e) = refusal_text e

-- a Calendar file, or what the export says instead
unfoldable pub export_text : List ℕ → Result ℕ Refusal → List ℕ
export_text file (Ok n) = file
export_text file (Err e) = refusal_text e

-- "a first day and a count (export)", in so many bytes of room
unfoldable pub export_response : List ℕ → ShortMonth → ℕ → ℕ → ℕ → List ℕ
export_response f c room first count =
    export_text (export_file (shows_under c) f first count) (export_answer (shows_under c) f first count room)

-- "anything else is 11, after the book's own refusals"
unfoldable pub other_response : Result Book Refusal → List ℕ
other_response (Ok b) = refusal_text (refusal out_of_range)
other_response (Err e) = refusal_text e

-- "Its Calendar room is 65,536 bytes"
abbrev pub program_room : ℕ
program_room = 65536

-- what the program writes for a command on a book
unfoldable pub response : List ℕ → Command → List ℕ
response f (Command.Page d c) = page_response f c program_room (validated f (record { 0 = d }))
response f (Command.Export d n c) = export_response f c program_room d n
response f Command.Unknown = other_response (book_of f)
