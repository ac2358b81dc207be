-- HP 200LX day chains across C: what number 0 says of them.
-- Assumes nothing.
use Rattle.std.specs.Prelude.{◌≡◌, List, ℕ}
use Rattle.chains.specs.Shown.{Shown}
use Rattle.marshal.specs.declared.count_answers.CountOut.{CountOut}

-- what an answer that accepts says
abbrev pub PromisedOut : List ℕ → List ℕ → CountOut → Type 0
PromisedOut t next r = r.number ≡ 0 → Shown t next
