-- Laws of the reader: its recursions one descriptor at a time, what a day's block is, and what an accepted file is.
-- Assumes nothing.
use Prim.Native.Nat.{ℕ, zero, suc, ◌+◌, ◌*◌, ◌<◌, ◌≤◌}
use Rattle.std.specs.Prelude.{Ok, Err, ◌≡◌, true, false, List, length}
use Rattle.std.proofs.Math.Path.{refl}
use Rattle.std.proofs.Common.{◌∙◌, arith}
use Rattle.std.proofs.Math.Bool.{false≢true}
use Rattle.prelude.proofs.Laws.Choice.{is_lt, is_ge, is_eq, is_true, is_false, lt_skip, eq_take, b_take}
use Rattle.prelude.specs.Bytes.{word}
use Rattle.prelude.specs.Refusals.{bad_table, bad_block, refusal_at}
use Rattle.prelude.proofs.Laws.Refusals.{refused_not_fine}
use Rattle.prelude.proofs.Laws.Verdicts.{and_then_fine, and_then-refused, and_then_fine_both}
use Rattle.prelude.specs.declared.refusals.Refusal.{Refusal}
use Rattle.days.specs.Days.{last_day}
use Rattle.calendar.specs.Lists.{verdict_in}
use Rattle.calendar.specs.Reader.{most_bytes, calendar_identified, count_of, table_end, day_at, offset_at, block_at, list_end, table_from, block_ok, list_of, day_verdict, days_from, calendar_answered, calendar_of}
use Rattle.calendar.specs.Invariants.{BlockAt, AcceptedFile}
use Rattle.calendar.specs.File.{last_block}
use Rattle.prelude.specs.Verdicts.{Verdict}
use Rattle.prelude.proofs.Laws.Results.{err_not_ok}

-- the table: of no descriptor, a day over the last, a day that does not rise, a day that does
module _ (f : List ℕ) (p low : ℕ) where
  pub table_none : table_from 0 f p low ≡ Ok tt
  unfolding table_from
  table_none = refl

  pub table-over : (k : ℕ) → last_day < day_at f p → table_from (suc k) f p low ≡ Err (refusal_at bad_table p)
  unfolding table_from
  table-over k h = is_lt h _ _

  pub table-falls : (k : ℕ) → day_at f p ≤ last_day → day_at f p < low → table_from (suc k) f p low ≡ Err (refusal_at bad_table p)
  unfolding table_from
  table-falls k h l = is_ge h _ _ ∙ is_lt l _ _

  pub table-rises : (k : ℕ) → day_at f p ≤ last_day → low ≤ day_at f p → table_from (suc k) f p low ≡ table_from k f (p + 12) (day_at f p + 1)
  unfolding table_from
  table-rises k h l = is_ge h _ _ ∙ is_ge l _ _

module _ (f : List ℕ) (p : ℕ) where
  pub block-facts : block_ok f p ≡ true → BlockAt f p
  unfolding block_ok
  block-facts h =
      let e1 = lt_skip last_block (offset_at f p) _ _ false≢true h in
      let e2 = lt_skip (block_at f p) (table_end f) _ _ false≢true e1.1 in
      let e3 = lt_skip (length f) (block_at f p + 10) _ _ false≢true e2.1 in
      let e4 = eq_take (word f (block_at f p)) 0 _ _ false≢true e3.1 in
      let e5 = eq_take (word f (block_at f p + 2)) (day_at f p) _ _ false≢true e4.1 in
      let e6 = eq_take (word f (block_at f p + 4)) 1 _ _ false≢true e5.1 in
      let e7 = lt_skip (length f) (list_end f (block_at f p)) _ _ false≢true e6.1 in
      record { low_bits = e1.0; behind = e2.0; words = e3.0; zero = e4.0; day = e5.0; one = e6.0; whole = e7.0 }

  pub facts-block : BlockAt f p → block_ok f p ≡ true
  unfolding block_ok
  facts-block b =
      rw (is_ge b.low_bits, is_ge b.behind, is_ge b.words, is_eq b.zero, is_eq b.day, is_eq b.one, is_ge b.whole)

  -- a day: its block against the rule, or its list
  pub day-block : block_ok f p ≡ false → day_verdict f p ≡ Err (refusal_at bad_block p)
  unfolding day_verdict
  day-block h = is_false h _ _

  pub day-list : block_ok f p ≡ true → day_verdict f p ≡ verdict_in (list_of f p)
  unfolding day_verdict
  day-list h = is_true h _ _

  pub day-fine : day_verdict f p ≡ Ok tt → BlockAt f p × (verdict_in (list_of f p) ≡ Ok tt)
  unfolding day_verdict
  day-fine h = let e = b_take (block_ok f p) _ _ refused_not_fine h in (block-facts e.0, e.1)

  -- the days: of no descriptor, one that is fine, one that is refused
  pub days-none : days_from 0 f p ≡ Ok tt
  unfolding days_from
  days-none = refl

  pub days-next : (k : ℕ) → day_verdict f p ≡ Ok tt → days_from (suc k) f p ≡ days_from k f (p + 12)
  unfolding days_from
  days-next k h = and_then_fine _ refl h

  pub days-stop : (k : ℕ) {e : Refusal} → day_verdict f p ≡ Err e → days_from (suc k) f p ≡ Err e
  unfolding days_from
  days-stop k h = and_then-refused _ refl h

  pub days_fine : (k : ℕ) → days_from (suc k) f p ≡ Ok tt → (day_verdict f p ≡ Ok tt) × (days_from k f (p + 12) ≡ Ok tt)
  unfolding days_from
  days_fine k h = and_then_fine_both _ _ h

pub answer_fine : (n : ℕ) → calendar_answered n (Ok tt) ≡ Ok n
unfolding calendar_answered
answer_fine n = refl

answer_taken : (n : ℕ) (v : Verdict) {m : ℕ} → calendar_answered n v ≡ Ok m → (m ≡ n) × (v ≡ Ok tt)
unfolding calendar_answered
answer_taken n (Ok tt) h = (cc, refl)
answer_taken n (Err e) h = absurd (err_not_ok h)

pub head_long : (f : List ℕ) → calendar_identified f ≡ true → 64 ≤ length f
unfolding calendar_identified
head_long f h = (lt_skip (length f) 64 _ _ false≢true h).0

pub calendar_facts : (f : List ℕ) {n : ℕ} → calendar_of f ≡ Ok n → AcceptedFile f n
unfolding calendar_of
calendar_facts f {n} h =
    let e1 = lt_skip most_bytes (length f) _ _ err_not_ok h in
    let e2 = b_take (calendar_identified f) _ _ err_not_ok e1.1 in
    let e3 = lt_skip (length f) (table_end f) _ _ err_not_ok e2.1 in
    let e4 = answer_taken (count_of f) _ e3.1 in
    let e5 = and_then_fine_both _ _ e4.1 in
    record { size = e1.0; named = e2.0; count = e4.0; whole = e3.0; rises = e5.0; days = e5.1 }

pub facts_calendar : (f : List ℕ) (n : ℕ) → AcceptedFile f n → calendar_of f ≡ Ok n
unfolding calendar_of
facts_calendar f n a =
    rw (is_ge a.size, is_true a.named, is_ge a.whole, and_then_fine _ refl a.rises, a.days, answer_fine, ← a.count)

-- the k-th of the days of an accepted file
pub day_there : (f : List ℕ) (k p i : ℕ) → days_from k f p ≡ Ok tt → i < k → day_verdict f (p + 12 * i) ≡ Ok tt
day_there f zero p i h l = absurd (omega arith)
day_there f (suc k) p zero h l = let e : p + 12 * 0 ≡ p = omega arith in rw e (days_fine f p k h).0
day_there f (suc k) p (suc i) h l =
    let e : p + 12 * suc i ≡ p + 12 + 12 * i = omega arith in
    rw e (day_there f k (p + 12) i (days_fine f p k h).1 (omega arith))
