-- Laws of pages: what an accepted question knows, and the records of a book one by one.
-- Assumes nothing.
use Rattle.std.specs.Prelude.{Result, Ok, Err, ℕ, suc, ◌+◌, ◌*◌, ◌<◌, ◌≤◌, ◌≡◌, refl, Bool, true, false, List, [], ◌∷◌, map}
use Rattle.std.proofs.Common.{sym, ◌∙◌, ap, arith, drop-cons}
use lib.ListN.{length, get_or, drop}
use Rattle.prelude.proofs.Laws.Choice.{is_lt, is_ge, lt_elim, lt_skip}
use Rattle.prelude.specs.declared.refusals.Refusal.{Refusal}
use Rattle.sorting.specs.Keep.{keep}
use Rattle.sorting.proofs.Laws.Keep.{keep-nil, keep-yes, keep-no}
use Rattle.sorting.proofs.Laws.Order.{length-sort}
use Rattle.days.specs.Days.{last_day}
use Rattle.days.specs.Facts.{facts_of}
use Rattle.days.specs.Answers.{facts_answer}
use Rattle.days.proofs.Laws.Answers.{facts_in_lem, facts_out_lem}
use Rattle.days.specs.declared.types.CalendarDay.{CalendarDay}
use Rattle.day_steps.proofs.Laws.Moves.{facts_of-day_number}
use Rattle.book.specs.Books.{book_of, entry_at, places_of, entries_of, most_records}
use Rattle.book.specs.Walk.{next_place}
use Rattle.book.specs.Invariants.{AcceptedBook}
use Rattle.book.proofs.Laws.Books.{book_accepted, Cursor, Ahead, cursor-ahead}
use Rattle.book.proofs.Laws.Counts.{count_most}
use Rattle.book.specs.declared.types.Book.{Book}
use Rattle.book.specs.Settings.{first_record}
use Rattle.pages.specs.Pages.{Numbered, numbered_from, numbered, start_of, page_of}
use Rattle.pages.specs.Answers.{validated_day, validated}
use Rattle.pages.specs.Invariants.{ReadyBook, record_at}
use Rattle.pages.specs.declared.types.Ready.{Ready}
use Rattle.days.specs.declared.types.DayFacts.{DayFacts}
use Rattle.prelude.proofs.Laws.Results.{err_not_ok, ok_inj}

-- each record takes 14 bytes or more
pub ready_most : {f : List ℕ} {a : Ready} → ReadyBook f a → a.records ≤ most_records
ready_most {f} {a} r =
    let m : first_record + 14 * length (places_of f) ≤ length f = count_most f r.long in
    omega (arith, r.size, r.count)

from-accepted : (f : List ℕ) (n : CalendarDay) (b : Book) → AcceptedBook f b → {a : Ready} → validated_day n (Ok b) ≡ Ok a → ReadyBook f a
unfolding validated_day
from-accepted f n b h {a} e =
    let p = lt_skip last_day n.0 _ _ err_not_ok e in
    let q : ◌≡◌ {A = Ready} (record { records = b.records; facts = facts_of n.0 }) a = ok_inj p.1 in
    let l : n.0 ≤ last_day = p.0 in
    let fine : ReadyBook f (record { records = b.records; facts = facts_of n.0 }) =
    record { size = h.size; long = h.long; count = h.count; day = rw (facts_of-day_number n.0) l; facts = ap facts_of (sym (facts_of-day_number n.0)) } in
    rw q at fine

from_book : (f : List ℕ) (n : CalendarDay) (b : Result Book Refusal) → book_of f ≡ b → {a : Ready} → validated_day n b ≡ Ok a → ReadyBook f a
unfolding validated_day
from_book f n (Ok b) q e = from-accepted f n b (book_accepted f q) e
from_book f n (Err r) q e = absurd (err_not_ok e)

pub validated_ready : (f : List ℕ) (n : CalendarDay) {a : Ready} → validated f n ≡ Ok a → ReadyBook f a
unfolding validated
validated_ready f n e = from_book f n (book_of f) refl e

day_facts : (n : CalendarDay) (b : Result Book Refusal) {a : Ready} → validated_day n b ≡ Ok a → a.facts ≡ facts_of n.0
unfolding validated_day
day_facts n (Ok b) e = ap (λ (z : Ready). z.facts) (sym (ok_inj (lt_skip last_day n.0 _ _ err_not_ok e).1))
day_facts n (Err r) e = absurd (err_not_ok e)

-- and its facts are those of the day that was asked about
pub validated_day-facts : (f : List ℕ) (n : CalendarDay) {a : Ready} → validated f n ≡ Ok a → a.facts ≡ facts_of n.0
unfolding validated
validated_day-facts f n e = day_facts n (book_of f) e

-- "then 11" is what the day layer says of the day
unfoldable pub with_facts : ℕ → Result DayFacts Refusal → Result Ready Refusal
with_facts n (Ok d) = Ok (record { records = n; facts = d })
with_facts n (Err e) = Err e

pub validated-facts : (n : CalendarDay) (b : Book) → with_facts b.records (facts_answer n) ≡ validated_day n (Ok b)
unfolding validated_day with_facts
validated-facts n b =
    lt_elim {X = Unit {0}} (λ _. with_facts b.records (facts_answer n) ≡ validated_day n (Ok b)) last_day n.0 tt tt
    (λ h. rw (facts_out_lem n h) (sym (is_lt h _ _))) (λ h. rw (facts_in_lem n h) (sym (is_ge h _ _)))

-- the records from the n-th on, with their numbers
unfoldable pub numbered_at : List ℕ → ℕ → List Numbered
numbered_at f n = numbered_from n (map (entry_at f) (drop n (places_of f)))

pub numbered_first : (f : List ℕ) → numbered f ≡ numbered_at f 0
unfolding numbered numbered_at entries_of
numbered_first f = refl

pub numbered_more : (f : List ℕ) (n : ℕ) → n < length (places_of f) → numbered_at f n ≡ record_at f n (get_or (places_of f) n 0) ∷ numbered_at f (suc n)
unfolding numbered_at numbered_from
numbered_more f n h = rw (drop-cons (places_of f) n 0 h)

pub numbered_end : (f : List ℕ) (n : ℕ) → length (places_of f) ≤ n → numbered_at f n ≡ []
unfolding numbered_at numbered_from
numbered_end f n h = rw (lib.ListN.drop_of_length-le (places_of f) h)

-- one record on: what a cursor's place adds, and the next place
pub record Turn (f : List ℕ) (n at : ℕ) : Type 0 where
  pub more : numbered_at f n ≡ record_at f n at ∷ numbered_at f (suc n)
  pub next : Cursor f (suc n) (next_place f at)
  pub place : at ≤ length f

pub numbered_cursor : (f : List ℕ) (n at : ℕ) → Cursor f n at → n < length (places_of f) → Turn f n at
numbered_cursor f n at c h =
    let a : Ahead f n at = cursor-ahead f n at c h in
    record { more = numbered_more f n h ∙ rw a.place; next = a.next; place = c.here.high }

module _ (f : List ℕ) (n at : ℕ) (t : Turn f n at) (p : Numbered → Bool) where
  pub keep-numbered-yes : p (record_at f n at) ≡ true → keep p (numbered_at f n) ≡ record_at f n at ∷ keep p (numbered_at f (suc n))
  keep-numbered-yes h = ap (keep p) t.more ∙ keep-yes p _ _ h

  pub keep-numbered-no : p (record_at f n at) ≡ false → keep p (numbered_at f n) ≡ keep p (numbered_at f (suc n))
  keep-numbered-no h = ap (keep p) t.more ∙ keep-no p _ _ h

pub keep-numbered_end : (f : List ℕ) (n : ℕ) (p : Numbered → Bool) → length (places_of f) ≤ n → keep p (numbered_at f n) ≡ []
keep-numbered_end f n p h = ap (keep p) (numbered_end f n h) ∙ keep-nil p

-- the order does not change the number of lines
pub length_page : (p : Numbered → Bool) (f : List ℕ) → length (page_of p f) ≡ length (keep p (numbered f))
unfolding page_of
length_page p f = length-sort start_of (keep p (numbered f))
