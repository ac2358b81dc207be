-- `put_days` meets its contract: the blocks stand empty, and each record puts its appointment on its days, by the laws of `Ready`.
use Rattle.std.proofs.Common.{List, arith, length, sym, ℕ, Bool, ◌*◌, ◌+◌, ◌∙◌, ◌≡◌, ◌≤◌}
use Rattle.calendar_writer.specs.Sums.{rows, units_to, none_yet}
use Rattle.calendar_writer.proofs.Laws.Filling.{filled_self, filled_over}
use Rattle.pages.specs.Pages.{Numbered}
use Rattle.export.specs.Invariants.{ReadyToFill}
use Rattle.export.specs.Passes.{so_far}
use Rattle.export.proofs.Laws.Ready.{ready-sound, ready-long, blank-long, filled-so-far-zero, ready-room, filled-so-far-suc}
use Rattle.export.proofs.filling.put_days.Goals as goal

-- The blocks have room.
room :
    {f : List ℕ} {shows : ℕ → Numbered → Bool} {first : ℕ} {mark : ℕ → Numbered → Bool} {days sums codes : List ℕ} (r : ReadyToFill f shows first mark days sums codes) (interval at : ℕ) (out : List ℕ)
    → at + length (rows (so_far f interval mark codes (length codes)) first 0 sums) ≤ length out → at + 64 * units_to (length sums) sums ≤ length out
room {codes} r interval at out h = omega (arith, ready-long r interval (length codes))

pub put_blanks-end-requires-clause-sums_in_bounds : goal.put_blanks-end-requires-clause-sums_in_bounds
put_blanks-end-requires-clause-sums_in_bounds c = omega (arith, room c.requires.ready_to_fill c.args.filling.now.settings.interval c.args.at c.args.out.now c.requires.sums_in_bounds, blank-long c.requires.ready_to_fill c.args.filling.now.settings.interval)

pub loop-code-init : goal.loop-code-init
loop-code-init c =
    let fits = room c.requires.ready_to_fill c.args.filling.now.settings.interval c.args.at c.args.out.now c.requires.sums_in_bounds in
    (filled-so-far-zero c.requires.ready_to_fill c.args.filling.now.settings.interval (omega (arith, fits)) (filled_self (omega (arith, fits)) c.put_blanks-end.ensures.put), omega (arith, c.requires.places_len), omega (arith, fits))

pub fill_code-requires-clause-sound : goal.fill_code-requires-clause-sound
fill_code-requires-clause-sound c = ready-sound c.requires.ready_to_fill c.loop-code.code-index (omega arith)

pub fill_code-requires-clause-roomy : goal.fill_code-requires-clause-roomy
fill_code-requires-clause-roomy c = ready-room c.requires.ready_to_fill c.args.filling.now.settings.interval c.loop-code.invariant.2 (omega arith) c.loop-code.invariant.0

pub loop-code-preserved : goal.loop-code-preserved
loop-code-preserved c = (
  filled-so-far-suc c.requires.ready_to_fill c.args.filling.now.settings.interval c.loop-code.invariant.2 (omega arith) c.loop-code.invariant.0 c.fill_code.ensures.added c.fill_code.ensures.out_after,
  c.fill_code.ensures.added.long ∙ c.loop-code.invariant.1,
  c.loop-code.invariant.2,
)

pub returns : goal.returns
returns c =
    let fits = room c.requires.ready_to_fill c.args.filling.now.settings.interval c.args.at c.args.out.now c.requires.sums_in_bounds in
    let e : c.loop-code.code-index ≡ length c.args.filling.now.codes.now = omega arith in
    let b = blank-long c.requires.ready_to_fill c.args.filling.now.settings.interval in
    let w = ready-long c.requires.ready_to_fill c.args.filling.now.settings.interval (length c.args.filling.now.codes.now) in
    record {
      next = omega (arith, c.put_blanks-end.ensures.next, b, w);
      put = filled_over c.args.out.now (rows none_yet c.args.span.now.first 0 c.args.filling.now.sums.now) (omega (arith, fits)) (b ∙ sym w) c.put_blanks-end.ensures.put.stands (rw e at c.loop-code.invariant.0);
    }
