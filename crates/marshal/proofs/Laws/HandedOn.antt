-- A run of the C calls is the writer's run with what the calls take, so read-back and same bytes hold across C; and what the reading calls give,
-- handed on as it is, is what was read.
-- Assumes nothing.
use Rattle.std.specs.Prelude.{Result, Ok, Err, Option, Some, None, ℕ, zero, suc, ◌+◌, ◌≤◌, ◌<◌, ◌≡◌, refl, length, get_or, take, drop}
use Rattle.std.proofs.Common.{sym, ◌∙◌, arith, drop_of_length-le, drop-cons}
use Rattle.std.proofs.Math.Path.{ap}
use mathlib.Core.List.{List, [], ◌∷◌, map}
use Rattle.prelude.proofs.Laws.Choice.{is_eq, is_ne}
use Rattle.prelude.proofs.Laws.Refusals.{number_not_zero}
use Rattle.prelude.specs.declared.refusals.Fault.{Fault}
use Rattle.prelude.specs.Bytes.{Bytes, stretch_bytes}
use Rattle.prelude.specs.Splice.{splice}
use Rattle.records.specs.declared.types.Record.{Record}
use Rattle.records.specs.declared.types.ToDo.{ToDo}
use Rattle.book.specs.Books.{book_of, record_answer, record_text_in, record_note_in}
use Rattle.book.specs.declared.types.Book.{Book}
use Rattle.book.specs.declared.types.Entry.{Entry}
use Rattle.writer.specs.Writing.{gives_where, open_gives, add_gives, close_gives}
use Rattle.writer.specs.Runs.{Item, Run, done, after_call, finish, adds, writing, closed_at}
use Rattle.writer.specs.Again.{item_at, items_of, Plain, Reads, ReadsAs}
use Rattle.writer.proofs.Laws.Again.{items-count, items-read}
use Rattle.writer.proofs.Laws.Theorem.{writing-reads, writing-same}
use Rattle.writer.specs.declared.types.Writer.{Writer}
use Rattle.marshal.specs.BookAnswers.{book_out, settings_in}
use Rattle.marshal.specs.RecordAnswers.{record_with, dated_out, repeat_out, to_do_out, checked_out, kind_out, record_out}
use Rattle.marshal.specs.WriterStates.{writer_out, writer_in}
use Rattle.marshal.specs.HandedOn.{ItemOut, item_in, after_out, close_out, adds_out, writing_out, item_out, items_out, all_out, ReadsOut}
use Rattle.marshal.proofs.Laws.RoundTrips.{settings_back, record_back}
use Rattle.marshal.specs.declared.book_answers.BookOut.{BookOut}
use Rattle.marshal.specs.declared.record_answers.RecordOut.{RecordOut}
use Rattle.marshal.specs.declared.writer_states.WriterOut.{WriterOut}
use Rattle.days.specs.declared.types.Date.{Date}

-- A call's number is 0 just where it is done, and its state comes back as it goes in.
after_call_lem :
    (judged : Result (Unit {0}) Fault) (next came : Writer) (b : List ℕ) (k : WriterOut → List ℕ → Run) (j : Writer → List ℕ → Run)
    → ((w : WriterOut) → k w b ≡ j (writer_in w) b) → after_out (writer_out (gives_where judged next came)) b k ≡ after_call (gives_where judged next came) b j
unfolding gives_where after_out writer_out
after_call_lem (Ok tt) next came b k j h = is_eq refl _ _ ∙ h _
after_call_lem (Err f) next came b k j h = is_ne (number_not_zero f) _ _

adds_out_lem : (is : List ItemOut) (w : WriterOut) (b : List ℕ) → adds_out is w b ≡ adds (map item_in is) (writer_in w) b
unfolding adds_out adds close_out finish add_gives close_gives
adds_out_lem [] w b = after_call_lem _ _ _ _ _ _ (λ w'. refl)
adds_out_lem (i ∷ is) w b = after_call_lem _ _ _ _ _ _ (λ w'. adds_out_lem is w' _)

-- The calls across C are the writer's, whatever is handed over.
pub writing_out_lem : (s : BookOut) (is : List ItemOut) (b : List ℕ) → writing_out s is b ≡ writing (settings_in s) (map item_in is) b
unfolding writing_out writing open_gives
writing_out_lem s is b = after_call_lem _ _ _ _ _ _ (λ w'. adds_out_lem is w' _)

-- Whatever its kind, a record's text and note are the stretches that it points at.
abbrev Pointed : List ℕ → Entry → RecordOut → Type 0
Pointed f e r = ((item_out f r).text ≡ stretch_bytes f e.text) × ((item_out f r).note ≡ stretch_bytes f e.note)

to_do_pointed : (f : List ℕ) (e : Entry) (t : ToDo) (c : Option Date) → Pointed f e (checked_out e t c)
unfolding checked_out to_do_out record_with
to_do_pointed f e t None = (refl, refl)
to_do_pointed f e t (Some d) = (refl, refl)

kind_pointed : (f : List ℕ) (e : Entry) (r : Record) → Pointed f e (kind_out e r)
unfolding kind_out dated_out repeat_out record_with
kind_pointed f e (Record.Dated d) = (refl, refl)
kind_pointed f e (Record.Weekly w) = (refl, refl)
kind_pointed f e (Record.MonthlyByDate m) = (refl, refl)
kind_pointed f e (Record.MonthlyByPosition m) = (refl, refl)
kind_pointed f e (Record.Yearly y) = (refl, refl)
kind_pointed f e (Record.ToDo t) = to_do_pointed f e t t.check_off

-- What apptbook_record gives of an item is that item, handed on as it is.
pub item_handed : (f : List ℕ) (k : ℕ) (i : Item) → Reads f k i → item_in (item_out f (record_out (record_answer f k))) ≡ i
unfolding record_out record_text_in record_note_in
item_handed f k i r =
    let e = r.entry in
    let p : Pointed f e (record_out (Ok e)) = kind_pointed f e e.«record» in
    let text : (item_out f (record_out (Ok e))).text ≡ i.text = p.0 ∙ sym (ap (record_text_in f) r.found) ∙ r.text in
    let note : (item_out f (record_out (Ok e))).note ≡ i.note = p.1 ∙ sym (ap (record_note_in f) r.found) ∙ r.note in
    let kind = record_back e ∙ r.«record» in
    ap (λ a. item_in (item_out f (record_out a))) r.found ∙ (λ j. record { kind = kind j; text = text j; note = note j })

items_from :
    (f : List ℕ) (is : List Item) (x : Item) (k n : ℕ) → k + n ≡ length is → ((m : ℕ) → m < length is → Reads f m (get_or is m x))
    → map item_in (items_out f k n) ≡ drop k is
unfolding items_out
items_from f is x k zero e h = sym (drop_of_length-le is {i = k} (omega arith))
items_from f is x k (suc n) e h =
    rw (drop-cons is k x (omega arith))
    (λ j. item_handed f k (get_or is k x) (h k (omega arith)) j ∷ items_from f is x (suc k) n (omega arith) h j)

module _ (f : List ℕ) {k : Book} (e : book_of f ≡ Ok k) where
  all-handed : (is : List Item) → length is ≡ k.records → ((m : ℕ) → m < length is → Reads f m (get_or is m (item_at f 0))) → map item_in (all_out f) ≡ is
  unfolding book_out
  all-handed is l h = ap (λ a. map item_in (items_out f 0 (book_out a).records)) e ∙ items_from f is (item_at f 0) 0 k.records (omega arith) h

  -- All that was read of a book, handed on as it is, are the book's items.
  pub items-handed : map item_in (all_out f) ≡ items_of f
  items-handed = all-handed (items_of f) (items-count f e) (λ m h. items-read f e m (omega (arith, items-count f e)))

  pub settings-handed : settings_in (book_out (book_of f)) ≡ k.settings
  settings-handed = ap (λ a. settings_in (book_out a)) e ∙ settings_back k

  -- Same bytes across C: what was read of a plain book, handed on as it is, is written as the book was.
  pub writing-out-same : (b : List ℕ) → Bytes f → Plain f → length f ≤ length b → writing_out (book_out (book_of f)) (all_out f) b ≡ done (closed_at (length f)) (splice b 0 f)
  writing-out-same b y p l =
      writing_out_lem (book_out (book_of f)) (all_out f) b ∙ (λ j. writing (settings-handed j) (items-handed j) b) ∙ writing-same f b y e p l

-- Read-back across C: whatever was opened, added and closed with number 0 each time is read as it was handed over.
pub writing_out-reads :
    (s : BookOut) (is : List ItemOut) (b : List ℕ) (w : Writer) (b' : List ℕ)
    → writing_out s is b ≡ done w b' → ReadsOut (take w.used b') s is
unfolding book_out
writing_out-reads s is b w b' e =
    let f = take w.used b' in
    let r : ReadsAs f (settings_in s) (map item_in is) = writing-reads (settings_in s) (map item_in is) b w b' (sym (writing_out_lem s is b) ∙ e) in
    record {
      number = ap (λ a. (book_out a).number) r.book;
      settings = settings-handed f r.book;
      items = all-handed f r.book (map item_in is) refl (λ m h. r.items m (item_at f 0) h);
    }
