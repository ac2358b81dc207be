-- What writing promises: whatever is opened, added and closed without a refusal reads as it was added, and a plain book is written as it was.
-- Assumes nothing.
use Rattle.std.specs.Prelude.{Ok, ℕ, ◌≤◌, ◌<◌, ◌≡◌, List, length, get_or, take, drop}
use Rattle.std.proofs.Math.Path.{refl, ap}
use Rattle.std.proofs.Common.{◌∙◌, arith}
use Rattle.std.proofs.Math.Bool.{true}
use Rattle.std.proofs.Math.Nat.{zero-add}
use Rattle.prelude.proofs.Laws.Choice.{is_lt, is_ge, is_true}
use Rattle.prelude.specs.Bytes.{Bytes, le16}
use Rattle.prelude.specs.Splice.{splice}
use Rattle.book.specs.Settings.{book_identified, settings_in_range, settings_of, settings_ok, first_record}
use Rattle.book.specs.Walk.{walk_of}
use Rattle.book.specs.Fillers.{fillers_of}
use Rattle.book.specs.Books.{book_of, entry_at, places_of, record_from, record_answer, record_text_in, record_note_in, most_book_bytes}
use Rattle.book.proofs.Laws.Walk.{at_first}
use Rattle.book.specs.Invariants.{AcceptedBook}
use Rattle.book.proofs.Laws.Books.{book_accepted}
use Rattle.book.specs.declared.types.Book.{Book}
use Rattle.book.specs.declared.types.Settings.{Settings}
use Rattle.writer.specs.Writing.{open_bytes}
use Rattle.writer.specs.Runs.{Item, done, writing, book_bytes, rest_bytes, closed_at, Written, Items}
use Rattle.writer.proofs.Laws.Runs.{length_book, writing-done, writing-goes}
use Rattle.writer.proofs.Laws.Items.{Entered}
use Rattle.writer.specs.Again.{items_of, Plain, Reads, ReadsAs}
use Rattle.writer.proofs.Laws.SameBytes.{items_addable, settings_range, same_bytes}
use Rattle.writer.proofs.Laws.ReadBack.{read-identified, settings_back, flags-back, Walked, read_walked}
use Rattle.writer.specs.declared.types.Writer.{Writer}

-- a record of an accepted book, by its entry
reads :
    (f : List ℕ) (s : Settings) (n k : ℕ) (i : Item) → book_of f ≡ Ok (record { settings = s; records = n }) → k < n
    → Entered f (entry_at f (get_or (places_of f) k 0)) i → Reads f k i
unfolding record_answer record_from record_text_in record_note_in
reads f s n k i b h e =
    let r : record_answer f k ≡ Ok (entry_at f (get_or (places_of f) k 0)) = ap (record_from f k) b ∙ is_lt h _ _ in
    record {
      entry = entry_at f (get_or (places_of f) k 0);
      found = r;
      «record» = e.«record»;
      text = ap (record_text_in f) r ∙ e.text;
      note = ap (record_note_in f) r ∙ e.note;
    }

module _ (s : Settings) (is : List Item) (h : settings_in_range s ≡ true) (o : Items is) (l : length (book_bytes s is) ≤ most_book_bytes) where
  ahead : drop first_record (book_bytes s is) ≡ rest_bytes is
  unfolding book_bytes open_bytes le16
  ahead = refl

  long : first_record ≤ length (book_bytes s is)
  long = omega (arith, length_book s is)

  settings-read : settings_of (book_bytes s is) ≡ s
  unfolding book_bytes
  settings-read = settings_back s (rest_bytes is) h

  walked-book : Walked (book_bytes s is) 0 first_record is
  walked-book = read_walked (book_bytes s is) is 0 first_record o (at_first long) ahead

  opening : (book_identified (book_bytes s is) ≡ true) × (settings_ok (book_bytes s is) ≡ true)
  unfolding book_bytes settings_ok
  opening =
      let r : settings_in_range (settings_of (book_bytes s is)) ≡ true = ap settings_in_range settings-read ∙ h in
      (read-identified s (rest_bytes is), is_ge long _ _ ∙ is_true r _ _ ∙ flags-back s (rest_bytes is))

  book-read : book_of (book_bytes s is) ≡ Ok (record { settings = s; records = length is })
  unfolding book_of walk_of
  book-read =
      let c = walked-book.count in
      let z = zero-add (length is) in
      is_ge l _ _ ∙ is_true opening.0 _ _ ∙ is_true opening.1 _ _ ∙ c ∙ (λ j. Ok (record { settings = settings-read j; records = z j }))

  -- The bytes of a book are read as its settings and items.
  pub book-reads : ReadsAs (book_bytes s is) s is
  unfolding places_of walk_of fillers_of
  book-reads =
      record {
        book = book-read;
        items = λ k x m. reads (book_bytes s is) s (length is) k (get_or is k x) book-read m (walked-book.entries k x m);
        none-added = omega (arith, walked-book.end);
      }

-- Writing and reading: whatever was opened, added and closed without a refusal is read back from the bytes that the state counts as used.
pub writing-reads :
    (s : Settings) (is : List Item) (b : List ℕ) (w : Writer) (b' : List ℕ)
    → writing s is b ≡ done w b' → ReadsAs (take w.used b') s is
writing-reads s is b w b' e =
    let r : Written s is b w b' = writing-done s is b w b' e in
    rw r.book (book-reads s is r.settings r.items r.size)

-- a book without padding, unnamed bits and fillers, read and written again, has the same bytes, in any buffer of at least its length
pub writing-same :
    (f : List ℕ) {k : Book} (b : List ℕ) → Bytes f → book_of f ≡ Ok k → Plain f → length f ≤ length b
    → writing k.settings (items_of f) b ≡ done (closed_at (length f)) (splice b 0 f)
writing-same f {k} b y e p l =
    let q : book_bytes k.settings (items_of f) ≡ f = same_bytes f y e p in
    let a : AcceptedBook f k = book_accepted f e in
    rw q at (writing-goes k.settings (items_of f) b (settings_range f e) (items_addable f e) (rw q l) (rw q a.size))
