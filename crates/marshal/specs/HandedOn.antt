-- What was read is handed on as it is: a run of the writing calls across C, each with the state that came back and the same buffer, untouched
-- between the calls; what the reading calls give of a book, as such a run takes it; and what a run's file reads as.
-- Assumes nothing.
use Rattle.std.specs.Prelude.{ℕ, zero, suc, ◌≡◌, List, [], ◌∷◌, map, length}
use Rattle.prelude.specs.Choice.{if_eq}
use Rattle.prelude.specs.Bytes.{part}
use Rattle.prelude.specs.Refusals.{refusal_at}
use Rattle.book.specs.Books.{book_of, record_answer}
use Rattle.writer.specs.Writing.{open_gives, open_leaves, add_gives, add_leaves, close_gives, close_leaves}
use Rattle.writer.specs.Runs.{Item, Run, done, refused}
use Rattle.marshal.specs.BookAnswers.{book_out, settings_in}
use Rattle.marshal.specs.RecordAnswers.{record_out}
use Rattle.marshal.specs.RecordArguments.{record_in}
use Rattle.marshal.specs.WriterStates.{writer_out, writer_in}
use Rattle.marshal.specs.declared.book_answers.BookOut.{BookOut}
use Rattle.marshal.specs.declared.record_answers.RecordOut.{RecordOut}
use Rattle.marshal.specs.declared.writer_states.WriterOut.{WriterOut}

-- what a caller hands to apptbook_add: a record, its text and its note
pub record ItemOut : Type 0 where
  pub «record» : RecordOut
  pub text : List ℕ
  pub note : List ℕ

-- as the call takes it
abbrev pub item_in : ItemOut → Item
item_in i = record { kind = record_in i.«record»; text = i.text; note = i.note }

-- after a call: on where the number that came back is 0
unfoldable pub after_out : WriterOut → List ℕ → (WriterOut → List ℕ → Run) → Run
after_out w b next = if_eq w.number 0 (next w b) (refused (refusal_at w.number w.place))

-- apptbook_close, by the two equations of its contract
unfoldable pub close_out : WriterOut → List ℕ → Run
close_out w b = after_out (writer_out (close_gives (writer_in w) (length b))) (close_leaves (writer_in w) b) (λ w' b'. done (writer_in w') b')

-- apptbook_add for each item, then apptbook_close
unfoldable pub adds_out : List ItemOut → WriterOut → List ℕ → Run
adds_out [] w b = close_out w b
adds_out (i ∷ is) w b =
    after_out (writer_out (add_gives (writer_in w) (length b) (record_in i.«record») i.text i.note))
    (add_leaves (writer_in w) b (record_in i.«record») i.text i.note) (λ w' b'. adds_out is w' b')

-- apptbook_open, then the rest
unfoldable pub writing_out : BookOut → List ItemOut → List ℕ → Run
writing_out s is b = after_out (writer_out (open_gives (settings_in s) (length b))) (open_leaves (settings_in s) b) (λ w' b'. adds_out is w' b')

-- what apptbook_record gave of a file, with the bytes that it points at
abbrev pub item_out : List ℕ → RecordOut → ItemOut
item_out f r =
    record {
      «record» = r;
      text = part f r.text_at r.text_length;
      note = part f r.note_at r.note_length;
    }

-- n records of a file, from number k on
unfoldable pub items_out : List ℕ → ℕ → ℕ → List ItemOut
items_out f k zero = []
items_out f k (suc n) = item_out f (record_out (record_answer f k)) ∷ items_out f (suc k) n

-- all that apptbook_read_book counts
abbrev pub all_out : List ℕ → List ItemOut
all_out f = items_out f 0 (book_out (book_of f)).records

-- across C a file reads as a book with what was handed over: number 0, and settings and items that would be taken for the same
pub record ReadsOut (f : List ℕ) (s : BookOut) (is : List ItemOut) : Type 0 where
  pub number : (book_out (book_of f)).number ≡ 0
  pub settings : settings_in (book_out (book_of f)) ≡ settings_in s
  pub items : map item_in (all_out f) ≡ map item_in is
