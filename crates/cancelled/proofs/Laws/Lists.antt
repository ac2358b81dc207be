-- Laws of a book with its list: what one that is not refused says, and that an empty list changes nothing.
-- Assumes nothing.
use Rattle.std.specs.Prelude.{Result, Ok, Err, ℕ, suc, ◌<◌, ◌≡◌, true, false, List, [], length, get_or}
use Rattle.std.proofs.Math.Path.{refl}
use Rattle.std.proofs.Common.{sym, ◌∙◌, arith}
use Rattle.prelude.specs.Verdicts.{in_turn}
use Rattle.prelude.proofs.Laws.Verdicts.{unless_bad_fine, in-turn-fine-each}
use Rattle.prelude.specs.declared.refusals.Refusal.{Refusal}
use Rattle.book.specs.Books.{book_of}
use Rattle.book.proofs.Laws.Books.{refused_not_accepted}
use Rattle.book.specs.declared.types.Book.{Book}
use Rattle.rising.specs.Rising.{Rising}
use Rattle.cancelled.specs.Cancelled.{rises_at, names_sitting, is_beyond, entry_bad, entry_verdict, list_verdict, with_verdict, after_book, book_with}
use Rattle.cancelled.proofs.Laws.Entries.{not-bad-facts, rises_less}
use Rattle.prelude.specs.Verdicts.{Verdict}

-- "with an empty list nothing differs from before"
pub empty_verdict : (f : List ℕ) → list_verdict f [] ≡ Ok tt
unfolding list_verdict in_turn
empty_verdict f = refl

pub empty_book : (f : List ℕ) → book_with f [] ≡ book_of f
unfolding book_with
empty_book f = by (book_of f)
  where
    by : (b : Result Book Refusal) → after_book f [] b ≡ b
    by (Ok b) = unfold after_book with_verdict list_verdict in_turn in refl
    by (Err e) = unfold after_book in refl

-- a book with a list that is not refused
pub record AcceptedWith (f list : List ℕ) (b : Book) : Type 0 where
  pub book : book_of f ≡ Ok b
  pub fine : list_verdict f list ≡ Ok tt

verdict_accepted : (b : Book) (v : Verdict) {a : Book} → with_verdict (Ok b) v ≡ Ok a → (◌≡◌ {A = Result Book Refusal} (Ok b) (Ok a)) × (v ≡ Ok tt)
unfolding with_verdict
verdict_accepted b (Ok tt) h = (h, refl)
verdict_accepted b (Err e) h = absurd (refused_not_accepted h)

accepted-from : (f list : List ℕ) (x : Result Book Refusal) → book_of f ≡ x → {b : Book} → after_book f list x ≡ Ok b → AcceptedWith f list b
unfolding after_book
accepted-from f list (Ok a) e h =
    let v = verdict_accepted a (list_verdict f list) h in
    record { book = e ∙ v.0; fine = v.1 }
accepted-from f list (Err r) e h = absurd (refused_not_accepted h)

pub book_accepted_with : (f list : List ℕ) {b : Book} → book_with f list ≡ Ok b → AcceptedWith f list b
unfolding book_with
book_accepted_with f list h = accepted-from f list (book_of f) refl h

pub accepted-book_with : (f list : List ℕ) {b : Book} → book_of f ≡ Ok b → list_verdict f list ≡ Ok tt → book_with f list ≡ Ok b
unfolding book_with after_book with_verdict
accepted-book_with f list e v = rw (e, v)

-- by the book's own answer and the list's verdict
pub book_with_fine : (f list : List ℕ) {b : Book} {v : Verdict} → book_of f ≡ Ok b → v ≡ list_verdict f list → v ≡ Ok tt → Ok b ≡ book_with f list
book_with_fine f list e v h = sym (accepted-book_with f list e (sym v ∙ h))

pub book_with-refused : (f list : List ℕ) {b : Book} {v : Verdict} {r : Refusal} → book_of f ≡ Ok b → v ≡ list_verdict f list → v ≡ Err r → Err r ≡ book_with f list
unfolding book_with after_book with_verdict
book_with-refused f list e v h = rw (e, ← v, h)

pub refused-book_with : (f list : List ℕ) {r : Refusal} → book_of f ≡ Err r → Err r ≡ book_with f list
unfolding book_with after_book
refused-book_with f list e = rw e

-- each entry of such a list keeps the rules
pub record GoodEntry (f list : List ℕ) (i : ℕ) : Type 0 where
  pub rises : rises_at list i ≡ true
  pub names : names_sitting f (get_or list i 0) ≡ true
  pub few : is_beyond list i ≡ false

pub fine_entry : (f list : List ℕ) → list_verdict f list ≡ Ok tt → (i : ℕ) → i < length list → GoodEntry f list i
unfolding list_verdict entry_verdict
fine_entry f list h i l =
    let v = in-turn-fine-each (entry_verdict f list) (length list) 0 h i (omega arith) (omega arith) in
    let g = not-bad-facts f list i (unless_bad_fine (entry_bad f list i) _ _ v) in
    record { rises = g.0; names = g.1; few = g.2 }

pub fine_rising : (f list : List ℕ) → list_verdict f list ≡ Ok tt → Rising list
fine_rising f list h = record { step = λ i l. rises_less list i (fine_entry f list h (suc i) l).rises }
