-- Laws of the rules and the times: both over the type number, as a reader of bytes meets it.
-- Assumes nothing.
use Rattle.std.specs.Prelude.{ℕ, ◌≡◌, refl, false, List}
use Rattle.prelude.specs.Bytes.{word_high}
use Rattle.prelude.specs.Choice.{if_eq}
use Rattle.prelude.proofs.Laws.Choice.{is_eq, is_ne, eq_elim}
use Rattle.days.specs.declared.types.DayFacts.{DayFacts}
use Rattle.days.specs.declared.types.Minute.{Minute}
use Rattle.records.specs.Fields.{dated_of, repeat_of, weekly_of, monthly_by_date_of, monthly_by_position_of, yearly_of, to_do_of, record_of}
use Rattle.records.specs.declared.types.Record.{Record}
use Rattle.falls.specs.Falls.{dated_falls, weekly_falls, by_date_falls, by_position_falls, yearly_falls, falls}
use Rattle.falls.specs.Times.{dated_times, repeat_times, times_of}
use Rattle.falls.specs.declared.types.ShortMonth.{ShortMonth}

-- A function of a choice is the choice of its values.
eq_map : {X Y : Type 0} (h : X → Y) (a b : ℕ) (x y : X) {u v : Y} → h x ≡ u → h y ≡ v → h (if_eq a b x y) ≡ if_eq a b u v
eq_map h a b x y {u} {v} p q =
    eq_elim (λ z. h z ≡ if_eq a b u v) a b x y (λ e. rw (is_eq e u v) p) (λ n. rw (is_ne n u v) q)

pub by_type :
    {Y : Type 0} (h : Record → Y) (t : ℕ) (p : List ℕ)
    → h (record_of t p) ≡ if_eq t 1 (h (Record.Dated (dated_of p))) (if_eq t 2 (h (Record.Weekly (weekly_of p))) (if_eq t 3 (h (Record.MonthlyByDate (monthly_by_date_of p))) (if_eq t 4 (h (Record.MonthlyByPosition (monthly_by_position_of p))) (if_eq t 5 (h (Record.Yearly (yearly_of p))) (h (Record.ToDo (to_do_of p)))))))
unfolding record_of
by_type h t p =
    eq_map h t 1 _ _ refl (eq_map h t 2 _ _ refl (eq_map h t 3 _ _ refl (eq_map h t 4 _ _ refl (eq_map h t 5 _ _ refl refl))))

pub falls_type :
    (c : ShortMonth) (f : DayFacts) (t : ℕ) (p : List ℕ)
    → falls c f (record_of t p) ≡ if_eq t 1 (dated_falls f (dated_of p)) (if_eq t 2 (weekly_falls f (weekly_of p)) (if_eq t 3 (by_date_falls c f (monthly_by_date_of p)) (if_eq t 4 (by_position_falls f (monthly_by_position_of p)) (if_eq t 5 (yearly_falls c f (yearly_of p)) false))))
unfolding falls
falls_type c f t p = by_type (falls c f) t p

pub times_type :
    (t : ℕ) (p : List ℕ)
    → times_of (record_of t p) ≡ if_eq t 1 (dated_times (dated_of p)) (if_eq t 2 (repeat_times (weekly_of p).repeat) (if_eq t 3 (repeat_times (monthly_by_date_of p).repeat) (if_eq t 4 (repeat_times (monthly_by_position_of p).repeat) (if_eq t 5 (repeat_times (yearly_of p).repeat) (record { start = record { 0 = 0 }; end = record { 0 = 0 }; alarm = false })))))
unfolding times_of
times_type t p = by_type times_of t p

abbrev pub minute : ℕ → Minute
minute n = record { 0 = n }

pub start_type :
    (t : ℕ) (p : List ℕ)
    → (times_of (record_of t p)).start ≡ if_eq t 1 (minute (word_high p 4)) (if_eq t 2 (minute (word_high p 2)) (if_eq t 3 (minute (word_high p 2)) (if_eq t 4 (minute (word_high p 3)) (if_eq t 5 (minute (word_high p 3)) (minute 0)))))
unfolding times_of dated_of weekly_of monthly_by_date_of monthly_by_position_of yearly_of repeat_of
start_type t p = by_type (λ r. (times_of r).start) t p
