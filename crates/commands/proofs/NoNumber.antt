-- A word that is no number, or names no choice, as the code finds it: anything else.
use Rattle.std.proofs.Common.{ℕ, ◌≡◌, refl, Some, None}
use Rattle.commands.specs.Commands.{with_number, with_choice, choice_in}
use Rattle.falls.specs.declared.types.ShortMonth.{ShortMonth}
use Rattle.commands.specs.declared.types.Word.{Word}
use Rattle.commands.specs.declared.types.Command.{Command}

pub no_number : (w : Word) (make : ℕ → Command) → ((n : ℕ) → w ≡ Word.Number n → ⊥) → Command.Unknown ≡ with_number w make
unfolding with_number
no_number (Word.Number n) make h = absurd (h n refl)
no_number Word.Skip make h = refl
no_number Word.Last make h = refl
no_number Word.Other make h = refl

pub no_choice : (w : Word) (make : ShortMonth → Command) → choice_in w ≡ None → Command.Unknown ≡ with_choice w make
unfolding with_choice
no_choice (Word.Number n) make h = refl
no_choice Word.Skip make h = cc
no_choice Word.Last make h = cc
no_choice Word.Other make h = refl

pub a_choice : (w : Word) (make : ShortMonth → Command) {s : ShortMonth} → choice_in w ≡ Some s → make s ≡ with_choice w make
unfolding with_choice
a_choice (Word.Number n) make h = cc
a_choice Word.Skip make h = cc
a_choice Word.Last make h = cc
a_choice Word.Other make h = cc
