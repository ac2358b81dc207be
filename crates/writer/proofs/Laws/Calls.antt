-- When a call is not refused, both ways: what no refusal says of open, add and close, and that nothing more is asked.
-- Assumes nothing.
use Rattle.std.specs.Prelude.{Result, Ok, Err, ℕ, ◌+◌, ◌≤◌, ◌≡◌, refl, Bool, true, false, List, length}
use Rattle.std.proofs.Common.{◌∙◌, ap, not, sym}
use Rattle.std.proofs.lemmas.Bool.{false≢true}
use Rattle.prelude.specs.Choice.{if_b}
use Rattle.prelude.proofs.Laws.Choice.{is_true, is_false, is_ge, lt_skip, b_take, constructors_differ}
use Rattle.prelude.proofs.Laws.Results.{err_not_ok, ok_not_err, err_inj}
use Rattle.prelude.specs.Bytes.{le16}
use Rattle.prelude.specs.Refusals.{number_of, refusal}
use Rattle.prelude.specs.Splice.{splice}
use Rattle.prelude.specs.declared.refusals.Fault.{Fault}
use Rattle.prelude.specs.declared.refusals.Refusal.{Refusal}
use Rattle.days.specs.Days.{last_minute}
use Rattle.texts.specs.Notes.{no_zero, note_ok, most_text}
use Rattle.records.specs.Ranges.{record_ok, most_lead}
use Rattle.records.specs.Encoding.{encode}
use Rattle.book.specs.Settings.{settings_in_range, most_granularity, first_record}
use Rattle.book.specs.declared.types.Settings.{Settings}
use Rattle.book.specs.Books.{most_book_bytes}
use Rattle.writer.specs.Writing.{passed, gives_where, leaves_where, open_bytes, open_refusal, room_refusal, state_open, add_refusal, close_refusal}
use Rattle.writer.specs.Runs.{Item, Run, done, refused, after_call, Fine, opened}
use Rattle.writer.specs.declared.types.Writer.{Writer}
use Rattle.writer.specs.declared.types.WriteRefusal.{WriteRefusal}

-- room for the bytes up to an end and for the end record
pub record Room (size end : ℕ) : Type 0 where
  pub buffer : end + 3 ≤ size
  pub book : end + 3 ≤ most_book_bytes

pub length_open : (s : Settings) → length (open_bytes s) ≡ 12
unfolding open_bytes le16
length_open s = refl

refused_not : {e : Refusal} {w : Writer} {b : List ℕ} → refused e ≡ done w b → ⊥
refused_not c = constructors_differ cc

-- A call in a run: with no refusal the run goes on from what was written.
module _ (n : Result (Unit {0}) Fault) (next came : Writer) (b : List ℕ) (at : ℕ) (bytes : List ℕ) (go : Writer → List ℕ → Run) where
  abbrev call : Result (Unit {0}) Fault → Run
  call m = after_call (gives_where m next came) (leaves_where m b at bytes) go

  none : {w : Writer} {b' : List ℕ} (m : Result (Unit {0}) Fault) → call m ≡ done w b' → (m ≡ Ok tt) × (go next (splice b at bytes) ≡ done w b')
  unfolding gives_where leaves_where
  none (Ok tt) e = (refl, e)
  none (Err f) e = absurd (refused_not e)

  pub call-done-refusal-zero : {w : Writer} {b' : List ℕ} → call n ≡ done w b' → (n ≡ Ok tt) × (go next (splice b at bytes) ≡ done w b')
  call-done-refusal-zero e = none n e

  pub call-zero-goes : n ≡ Ok tt → call n ≡ go next (splice b at bytes)
  unfolding gives_where leaves_where
  call-zero-goes e = rw e

-- What a call gives and leaves, by its judgement.
module _ {judged : Result (Unit {0}) Fault} (next came : Writer) where
  pub gives-fine : {w : Writer} → judged ≡ Ok tt → w ≡ next → Ok w ≡ gives_where judged next came
  unfolding gives_where
  gives-fine e q = rw (e, q)

  pub gives-refused : {f : Fault} {r : Refusal} → judged ≡ Err f → r ≡ refusal (number_of f) → Err (record { refusal = r; writer = came }) ≡ gives_where judged next came
  unfolding gives_where
  gives-refused e q = rw (e, q)

module _ {judged : Result (Unit {0}) Fault} (buffer : List ℕ) (at : ℕ) (bytes : List ℕ) where
  pub leaves-fine : {after : List ℕ} → judged ≡ Ok tt → after ≡ splice buffer at bytes → after ≡ leaves_where judged buffer at bytes
  unfolding leaves_where
  leaves-fine e q = rw (e, q)

  pub leaves-refused : {f : Fault} → judged ≡ Err f → buffer ≡ leaves_where judged buffer at bytes
  unfolding leaves_where
  leaves-refused e = rw e

-- What `passed` hands on tells of the judgement.
pub passed-fine : (judged : Result (Unit {0}) Fault) (came : Writer) {u : Unit {0}} → passed judged came ≡ Ok u → judged ≡ Ok tt
unfolding passed
passed-fine (Ok tt) came h = refl
passed-fine (Err f) came h = absurd (err_not_ok h)

pub passed-gives :
    (judged : Result (Unit {0}) Fault) (next came : Writer) {x : WriteRefusal} {r : Result Writer WriteRefusal}
    → passed judged came ≡ Err x → r ≡ Err x → r ≡ gives_where judged next came
unfolding passed
passed-gives (Ok tt) next came h e = absurd (ok_not_err h)
passed-gives (Err f) next came h e = e ∙ (ap Err (sym (err_inj h)) ∙ gives-refused next came refl refl)

pub passed-leaves :
    (judged : Result (Unit {0}) Fault) (came : Writer) (buffer : List ℕ) (at : ℕ) (bytes : List ℕ) {x : WriteRefusal}
    → passed judged came ≡ Err x → buffer ≡ leaves_where judged buffer at bytes
unfolding passed
passed-leaves (Ok tt) came buffer at bytes h = absurd (ok_not_err h)
passed-leaves (Err f) came buffer at bytes h = leaves-refused buffer at bytes refl

-- What the two tests of a state say at once.
pub open_both : (w : Writer) → first_record ≤ w.used → not w.closed ≡ state_open w
unfolding state_open if_b
open_both w h = sym (is_ge h _ _ ∙ by w.closed)
  where
    by : (b : Bool) → if_b b false true ≡ not b
    by true = refl
    by false = refl

pub room_facts : (size end : ℕ) → room_refusal size end ≡ Ok tt → Room size end
unfolding room_refusal
room_facts size end e =
    let e1 = lt_skip size (end + 3) _ _ err_not_ok e in
    let e2 = lt_skip most_book_bytes (end + 3) _ _ err_not_ok e1.1 in
    record { buffer = e1.0; book = e2.0 }

pub facts_room : (size end : ℕ) → Room size end → room_refusal size end ≡ Ok tt
unfolding room_refusal
facts_room size end h = is_ge h.buffer _ _ ∙ is_ge h.book _ _

pub open_facts : (s : Settings) (size : ℕ) → open_refusal s size ≡ Ok tt → (settings_in_range s ≡ true) × (15 ≤ size)
unfolding open_refusal
open_facts s size e =
    let e1 = b_take (settings_in_range s) _ _ err_not_ok e in
    let e2 = lt_skip size 15 _ _ err_not_ok e1.1 in
    (e1.0, e2.0)

pub facts_open : (s : Settings) (size : ℕ) → settings_in_range s ≡ true → 15 ≤ size → open_refusal s size ≡ Ok tt
unfolding open_refusal
facts_open s size e h = is_true e _ _ ∙ is_ge h _ _

state_open_lem : (at : ℕ) → first_record ≤ at → state_open (opened at) ≡ true
unfolding state_open
state_open_lem at h = is_ge h _ _ ∙ is_false refl _ _

pub add_facts :
    (w : Writer) (size : ℕ) (i : Item) → add_refusal w size i.kind i.text i.note ≡ Ok tt
    → Fine i × Room size (w.used + length (encode i.kind i.text i.note))
unfolding add_refusal
add_facts w size i e =
    let e1 = b_take (state_open w) _ _ err_not_ok e in
    let e2 = lt_skip most_text (length i.text) _ _ err_not_ok e1.1 in
    let e3 = b_take (record_ok i.kind) _ _ err_not_ok e2.1 in
    let e4 = b_take (no_zero i.text) _ _ err_not_ok e3.1 in
    let e5 = b_take (note_ok i.note) _ _ err_not_ok e4.1 in
    (record { short = e2.0; ranged = e3.0; clean = e4.0; ruled = e5.0 }, room_facts _ _ e5.1)

pub facts_add :
    (at size : ℕ) (i : Item) → first_record ≤ at → Fine i → Room size (at + length (encode i.kind i.text i.note))
    → add_refusal (opened at) size i.kind i.text i.note ≡ Ok tt
unfolding add_refusal
facts_add at size i h f r =
    is_true (state_open_lem at h) _ _ ∙ is_ge f.short _ _ ∙ is_true f.ranged _ _ ∙ is_true f.clean _ _
    ∙ is_true f.ruled _ _ ∙ facts_room _ _ r

pub close_facts : (w : Writer) (size : ℕ) → close_refusal w size ≡ Ok tt → Room size w.used
unfolding close_refusal
close_facts w size e =
    let e1 = b_take (state_open w) _ _ err_not_ok e in
    room_facts size w.used e1.1

pub facts_close : (at size : ℕ) → first_record ≤ at → Room size at → close_refusal (opened at) size ≡ Ok tt
unfolding close_refusal
facts_close at size h r = is_true (state_open_lem at h) _ _ ∙ facts_room size at r

-- a lead time in range fits into a byte
pub settings_lead : (s : Settings) → settings_in_range s ≡ true → s.lead ≤ most_lead
unfolding settings_in_range
settings_lead s e =
    let e1 = lt_skip last_minute s.start.0 _ _ false≢true e in
    let e2 = lt_skip s.granularity 1 _ _ false≢true e1.1 in
    let e3 = lt_skip most_granularity s.granularity _ _ false≢true e2.1 in
    (lt_skip most_lead s.lead _ _ false≢true e3.1).0
