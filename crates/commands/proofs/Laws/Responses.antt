-- Laws of the answers: the book's refusals come first, and with the program's room a page is never refused with 12. What the answers
-- of the printed page and of the export say of the bytes that the program writes.
-- Assumes nothing.
use Rattle.std.specs.Prelude.{Result, Ok, Err, ℕ, ◌^◌, ◌<◌, ◌≤◌, ◌≡◌, refl, false, List}
use Rattle.std.proofs.Math.Path.{sym, ap}
use Rattle.std.proofs.Common.{◌∙◌, arith, length-append}
use Rattle.std.proofs.Math.ListN.{length}
use Rattle.prelude.proofs.Laws.Choice.{is_lt, is_ge, is_false, lt_skip, lt_take}
use Rattle.prelude.specs.Splice.{splice}
use Rattle.prelude.specs.declared.refusals.Refusal.{Refusal}
use Rattle.digits.proofs.Laws.Decimal.{length_below, length-word}
use Rattle.days.specs.Days.{last_day}
use Rattle.book.specs.Books.{book_of}
use Rattle.falls.specs.declared.types.ShortMonth.{ShortMonth}
use Rattle.pages.specs.Answers.{validated_day, validated}
use Rattle.pages.proofs.Laws.Pages.{validated_ready}
use Rattle.pages.specs.declared.types.Ready.{Ready}
use Rattle.pages.specs.Pages.{falls_on}
use Rattle.printing.specs.Printed.{page_text}
use Rattle.printing.specs.Answers.{print_in, print_leaves}
use Rattle.printing.proofs.Laws.Sizes.{page_most}
use Rattle.export.specs.Export.{span_ok, export_file, export_from, export_answer, export_leaves, shows_under}
use Rattle.export.proofs.Laws.Answers.{export-success, left-refused, left-written}
use Rattle.commands.specs.Responses.{program_room, refusal_text, page_response, export_text, export_response, other_response, response}
use Rattle.commands.specs.declared.types.Command.{Command}
use Rattle.book.specs.declared.types.Book.{Book}
use Rattle.prelude.proofs.Laws.Results.{err_inj, err_not_ok, ok_inj, ok_not_err}

-- the room that any refusal of the machine's numbers needs
pub length-refusal : (e : Refusal) → e.number < 2 ^ 32 → e.place < 2 ^ 64 → length (refusal_text e) ≤ 32
unfolding refusal_text
length-refusal e h k =
    let a = length_below 9 e.number (omega arith) in
    let b = length-word k in
    simp length-append (omega arith)

-- "the book's own refusals" come first, whatever is asked
refused_of : (n : ℕ) {b : Result Book Refusal} {e : Refusal} → b ≡ Err e → validated_day (record { 0 = n }) b ≡ Err e
unfolding validated_day
refused_of n q = rw q

pub book_first : (f : List ℕ) (command : Command) {e : Refusal} → book_of f ≡ Err e → response f command ≡ refusal_text e
unfolding response page_response other_response validated export_response export_text export_answer export_from
book_first f (Command.Page d c) q = rw (refused_of d q)
book_first f (Command.Export d n c) q = rw q
book_first f Command.Unknown q = rw q

-- a number past the last day
beyond_of : (f : List ℕ) (c : ShortMonth) (room d : ℕ) (b : Result Book Refusal) → last_day < d → page_response f c room (validated_day (record { 0 = d }) b) ≡ other_response b
unfolding validated_day page_response other_response
beyond_of f c room d (Ok b) h = ap (page_response f c room) (is_lt h _ _)
beyond_of f c room d (Err e) h = refl

pub page_beyond : (f : List ℕ) (c : ShortMonth) (room d : ℕ) → last_day < d → page_response f c room (validated f (record { 0 = d })) ≡ other_response (book_of f)
unfolding validated
page_beyond f c room d h = beyond_of f c room d (book_of f) h

-- a span out of range
beyond_span_of : (f : List ℕ) (c : ShortMonth) (room first count : ℕ) (b : Result Book Refusal) → span_ok first count ≡ false → export_text (export_file (shows_under c) f first count) (export_from (shows_under c) f first count room b) ≡ other_response b
unfolding export_text export_from other_response
beyond_span_of f c room first count (Ok b) h = ap (export_text _) (is_false h _ _)
beyond_span_of f c room first count (Err e) h = refl

pub export_beyond : (f : List ℕ) (c : ShortMonth) (room first count : ℕ) → span_ok first count ≡ false → export_response f c room first count ≡ other_response (book_of f)
unfolding export_response export_answer
export_beyond f c room first count h = beyond_span_of f c room first count (book_of f) h

-- 12 never happens to a page in the program's room
pub page_whole : (f : List ℕ) (d : ℕ) (c : ShortMonth) {a : Ready} → validated f (record { 0 = d }) ≡ Ok a → response f (Command.Page d c) ≡ page_text (falls_on c) f a.facts
unfolding response page_response
page_whole f d c {a} q =
    let m = page_most (falls_on c) f a (validated_ready f (record { 0 = d }) q) in
    ap (page_response f c program_room) q ∙ is_ge (omega arith) _ _

-- what a printed page's answer says of the bytes that the program writes
pub record CountedResponse (f : List ℕ) (c : ShortMonth) (out : List ℕ) (q : Result Ready Refusal) (n : ℕ) : Type 0 where
  pub next : n ≡ length (page_response f c (length out) q)
  pub put : print_leaves (falls_on c) f out q ≡ splice out 0 (page_response f c (length out) q)
  pub within : n ≤ length out

pub record Refused (f : List ℕ) (c : ShortMonth) (out : List ℕ) (q : Result Ready Refusal) (e : Refusal) : Type 0 where
  pub text : page_response f c (length out) q ≡ refusal_text e
  pub left : print_leaves (falls_on c) f out q ≡ out

pub print_count : (f : List ℕ) (c : ShortMonth) (out : List ℕ) (q : Result Ready Refusal) {n : ℕ} → print_in (falls_on c) f (length out) q ≡ Ok n → CountedResponse f c out q n
unfolding print_in print_leaves page_response
print_count f c out (Ok a) e =
    let p = lt_skip (length out) (length (page_text (falls_on c) f a.facts)) _ _ err_not_ok e in
    let l : length (page_text (falls_on c) f a.facts) ≤ length out = p.0 in
    let n = ok_inj p.1 in
    record {
      next = sym n ∙ ap length (sym (is_ge l _ _));
      put = is_ge l _ _ ∙ ap (splice out 0) (sym (is_ge l _ _));
      within = omega arith;
    }
print_count f c out (Err r) e = absurd (err_not_ok e)

pub print_refused : (f : List ℕ) (c : ShortMonth) (out : List ℕ) (q : Result Ready Refusal) {e : Refusal} → print_in (falls_on c) f (length out) q ≡ Err e → Refused f c out q e
unfolding print_in print_leaves page_response
print_refused f c out (Ok a) e =
    let p = lt_take (length out) (length (page_text (falls_on c) f a.facts)) _ _ ok_not_err e in
    record { text = is_lt p.0 _ _ ∙ ap refusal_text (err_inj p.1); left = is_lt p.0 _ _ }
print_refused f c out (Err r) e = record { text = ap refusal_text (err_inj e); left = refl }

-- the same of an export's
module _ (f : List ℕ) (c : ShortMonth) (first count : ℕ) (out : List ℕ) where
  pub record Exported (n : ℕ) : Type 0 where
    pub next : n ≡ length (export_response f c (length out) first count)
    pub put : export_leaves (shows_under c) f first count out ≡ splice out 0 (export_response f c (length out) first count)
    pub within : n ≤ length out

  pub export-written : {n : ℕ} → export_answer (shows_under c) f first count (length out) ≡ Ok n → Exported n
  unfolding export_response export_text
  export-written {n} e =
      let s = export-success (shows_under c) f first count (length out) n e in
      let t = ap (export_text (export_file (shows_under c) f first count)) e in
      record {
        next = sym s.long ∙ ap length (sym t);
        put = left-written (shows_under c) f first count out n e ∙ ap (splice out 0) (sym t);
        within = s.enough;
      }

  pub export-refused : {e : Refusal} → export_answer (shows_under c) f first count (length out) ≡ Err e → (export_response f c (length out) first count ≡ refusal_text e) × (export_leaves (shows_under c) f first count out ≡ out)
  unfolding export_response export_text
  export-refused e =
      (ap (export_text (export_file (shows_under c) f first count)) e, left-refused (shows_under c) f first count out e)
