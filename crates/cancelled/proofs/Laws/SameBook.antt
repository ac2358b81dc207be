-- Two files that are read as the same book are the same with any list.
-- Assumes nothing.
use Prim.Native.Nat.{ℕ}
use Rattle.std.specs.Prelude.{Result, Ok, Err, ◌≡◌, true, List, length, get_or}
use Rattle.std.proofs.Math.Path.{refl, sym, ap}
use Rattle.std.proofs.Common.{◌∙◌}
use Rattle.std.proofs.Math.Bool.{false}
use Rattle.prelude.specs.Choice.{if_lt, if_b}
use Rattle.prelude.proofs.Laws.Choice.{is_ge, lt_elim}
use Rattle.prelude.proofs.Laws.Members.{member_at}
use Rattle.prelude.specs.Refusals.{bad_cancelled}
use Rattle.prelude.specs.Verdicts.{unless_bad, in_turn}
use Rattle.book.specs.Books.{book_of, entry_at, places_of}
use Rattle.book.specs.SameBook.{SameBook}
use Rattle.cancelled.specs.Cancelled.{cancelled_number, cancelled_day, rises_at, may_cancel, names_sitting, is_beyond, entry_bad, entry_verdict, list_verdict, with_verdict, after_book, book_with}
use Rattle.prelude.specs.declared.refusals.Refusal.{Refusal}
use Rattle.book.specs.declared.types.Book.{Book}
use Rattle.prelude.specs.Verdicts.{Verdict}

module _ (f g : List ℕ) (s : SameBook f g) where
  names_same : (e : ℕ) → names_sitting g e ≡ names_sitting f e
  unfolding names_sitting
  names_same e =
      let ps = places_of f in
      let n = cancelled_number e in
      rw s.places
      (lt_elim {X = Unit {0}} (λ _. if_lt n (length ps) (may_cancel (entry_at g (get_or ps n 0)).«record» (cancelled_day e)) false ≡ if_lt n (length ps) (may_cancel (entry_at f (get_or ps n 0)).«record» (cancelled_day e)) false) n (length ps) tt tt
      (λ h. rw (s.entry _ (member_at (places_of f) (cancelled_number e) 0 h))) (λ h. is_ge h _ _ ∙ sym (is_ge h _ _)))

  verdict-same : (list : List ℕ) → list_verdict g list ≡ list_verdict f list
  unfolding list_verdict entry_verdict entry_bad
  verdict-same list = ap (λ (judged : ℕ → Verdict). in_turn judged (length list) 0) (λ i k. unless_bad (if_b (rises_at list k) (if_b (names_same (get_or list k 0) i) (is_beyond list k) true) true) bad_cancelled k)

  pub book-with-same : (list : List ℕ) → book_with g list ≡ book_with f list
  unfolding book_with
  book-with-same list = ap (after_book g list) s.book ∙ by (book_of f)
    where
      by : (b : Result Book Refusal) → after_book g list b ≡ after_book f list b
      by (Ok b) = unfold after_book in ap (with_verdict (Ok b)) (verdict-same list)
      by (Err e) = unfold after_book in refl
