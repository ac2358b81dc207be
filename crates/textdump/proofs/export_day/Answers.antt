-- `export_day` meets its contract: a file that was written has its length inside the buffer, and none has no length.
use Rattle.std.proofs.Common.{Result, Ok, Err, ℕ, ◌≤◌, ◌≡◌, length, arith, sym, refl, ◌∙◌}
use Rattle.std.specs.Result.{result_unwrap_or}
use Rattle.prelude.specs.declared.refusals.Refusal.{Refusal}
use Rattle.export.proofs.Laws.Answers.{export-success}
use Rattle.textdump.proofs.export_day.Goals as goal

within : (room : ℕ) (a : Result ℕ Refusal) → ((n : ℕ) → a ≡ Ok n → n ≤ room) → result_unwrap_or a 0 ≤ room
within room (Ok n) h = h n refl
within room (Err e) h = omega arith

pub returns : goal.returns
returns c =
    let fits = within (length c.args.out.now) c.export.result (λ n q. (export-success _ _ _ _ _ _ (sym c.export.ensures.value ∙ q)).enough) in
    rw c.unwrap_or.ensures fits
