-- `span_on` meets its contract. The loop keeps: the day's places are those among the descriptors that are left from the k-th on.
use Rattle.std.proofs.Common.{Ok, ap, arith, suc, ℕ, List, ◌*◌, ◌+◌, ◌-◌, ◌<◌, ◌∙◌, ◌≡◌}
use Rattle.calendar.specs.Reader.{count_of, day_verdict, days_from}
use Rattle.calendar.proofs.Laws.Reader.{day-fine, days_fine}
use Rattle.calendar.specs.Shown.{places_from, places_on}
use Rattle.calendar.proofs.Laws.Appointments.{places-none, places-here, places-from-other-day, list_here}
use Rattle.calendar.proofs.shown.span_on.Goals as goal

-- Descriptor k is the first of those that are left: the days, and the places of one.
days_left : (f : List ℕ) (n k p : ℕ) → k < n → days_from (n - k) f p ≡ Ok tt → (day_verdict f p ≡ Ok tt) × (days_from (n - (k + 1)) f (p + 12) ≡ Ok tt)
days_left f n k p h e = days_fine f p _ (ap (λ (m : ℕ). days_from m f p) (omega arith) ∙ e)

places_left : (f : List ℕ) (n k p d : ℕ) → k < n → places_from (n - k) f p d ≡ places_from (suc (n - (k + 1))) f p d
places_left f n k p d h = ap (λ (m : ℕ). places_from m f p d) (omega arith)

pub loop-k-init : goal.loop-k-init
unfolding places_on
loop-k-init c = let n : c.args.n - 0 ≡ count_of c.args.file.now = omega arith in (rw n, rw n c.requires.days)

pub span_of-requires-clause-block_at : goal.span_of-requires-clause-block_at
span_of-requires-clause-block_at c = (day-fine _ _ (days_left _ _ _ _ (omega arith) c.loop-k.invariant.1).0).0

pub returns-then-word_in-day : goal.returns-then-word_in-day
returns-then-word_in-day c =
    rw (c.span_of.ensures.0, c.span_of.ensures.1)
    (list_here _ _ _ (omega arith) (days_left _ _ _ _ (omega arith) c.loop-k.invariant.1).0
    (c.loop-k.invariant.0 ∙ places_left _ _ _ _ _ (omega arith) ∙ places-here _ _ _ _ (omega arith)))

pub loop-k-preserved : goal.loop-k-preserved
loop-k-preserved c =
    let e : 64 + 12 * (c.loop-k.k + 1) ≡ 64 + 12 * c.loop-k.k + 12 = omega arith in
    rw e
    (c.loop-k.invariant.0 ∙ places_left _ _ _ _ _ (omega arith) ∙ places-from-other-day _ _ _ _ (λ e. c.if-word_in-day.false (c.word_in.ensures ∙ e)), (days_left _ _ _ _ (omega arith) c.loop-k.invariant.1).1)

pub returns : goal.returns
returns c = c.loop-k.invariant.0 ∙ ap (λ (k : ℕ). places_from k c.args.file.now (64 + 12 * c.loop-k.k) c.args.day) (omega arith) ∙ places-none _ _ _
