-- Number 0 is given to accepted chains alone, so it says what acceptance says.
-- Assumes nothing.
use Rattle.std.specs.Prelude.{Result, Ok, Err, ℕ, ◌≡◌, refl, List}
use Rattle.std.proofs.Common.{sym, ap, ◌∙◌, arith}
use Rattle.chains.specs.Chains.{chains_answer}
use Rattle.chains.proofs.Laws.Numbers.{refusal_number}
use Rattle.chains.proofs.Laws.Theorem.{accepted_chains}
use Rattle.marshal.specs.ChainAnswers.{PromisedOut}
use Rattle.marshal.specs.CountAnswers.{count_out}
use Rattle.marshal.specs.declared.count_answers.CountOut.{CountOut}
use Rattle.prelude.specs.declared.refusals.Refusal.{Refusal}

by_answer : (t previous next kind minute : List ℕ) (a : Result ℕ Refusal) → a ≡ chains_answer t previous next kind minute → PromisedOut t next (count_out a)
unfolding count_out
by_answer t previous next kind minute (Ok n) e z = accepted_chains t previous next kind minute n (sym e)
by_answer t previous next kind minute (Err x) e z = absurd (omega (arith, z, (refusal_number t previous next kind minute x (sym e)).0))

-- an answer that crosses as defined keeps what it promises
pub promised_out : (t previous next kind minute : List ℕ) {r : CountOut} → r ≡ count_out (chains_answer t previous next kind minute) → (r ≡ count_out (chains_answer t previous next kind minute)) × PromisedOut t next r
promised_out t previous next kind minute e = (e, λ z. by_answer t previous next kind minute _ refl (ap (λ (x : CountOut). x.number) (sym e) ∙ z))
