use Rattle.std.proofs.Common.{◌≡◌, ℕ, ◌<◌, ◌-◌}
use Rattle.prelude.specs.Verdicts.{Verdict, in_turn}
use Rattle.chains.proofs.checking.judge_in_turn.Given as goal

-- the verdicts are those from i on
abbrev pub invariant-loop-i : goal.invariant-loop-i
invariant-loop-i g l =
    (judged : ℕ → Verdict) → ((i : ℕ) (v : Verdict) → i < l.count → goal.F-post g l.judge i v → v ≡ judged i)
    → in_turn judged l.count 0 ≡ in_turn judged (l.count - l.i) l.i
