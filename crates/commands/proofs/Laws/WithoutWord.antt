-- Without the word the answer is 11, proved for every command line: where the last word names no choice, the words ask for nothing. And a word
-- of bytes that names one is spelled just so.
-- Assumes nothing.
use Rattle.std.specs.Prelude.{ℕ, ◌<◌, ◌≡◌, refl, true, false, List, [], ◌∷◌, ◌⊎◌, length}
use Rattle.std.proofs.Common.{sym, ◌∙◌, ap, inl, inr, arith}
use Rattle.std.proofs.lemmas.Bool.{false≢true}
use Rattle.prelude.specs.Choice.{if_eq}
use Rattle.prelude.proofs.Laws.Choice.{is_ne, b_elim}
use Rattle.digits.specs.Digits.{is_number}
use Rattle.falls.specs.declared.types.ShortMonth.{ShortMonth}
use Rattle.commands.specs.Words.{is_skip, is_last, word_of}
use Rattle.commands.proofs.Laws.Words.{spelled_is}
use Rattle.commands.specs.Commands.{with_number, with_choice, page_words, export_words, command_of}
use Rattle.commands.specs.Responses.{response}
use Rattle.commands.specs.WithoutWord.{names_choice, ends_in_choice, line_command, WithoutWord}
use Rattle.commands.specs.declared.types.Word.{Word}
use Rattle.commands.specs.declared.types.Command.{Command}

-- what is made of a number is nothing where nothing is made of any
number_unknown : (w : Word) (make : ℕ → Command) → ((n : ℕ) → make n ≡ Command.Unknown) → with_number w make ≡ Command.Unknown
unfolding with_number
number_unknown (Word.Number n) make h = h n
number_unknown Word.Skip make h = refl
number_unknown Word.Last make h = refl
number_unknown Word.Other make h = refl

-- a word that names no choice
choice_unknown : (w : Word) (make : ShortMonth → Command) → names_choice w ≡ false → with_choice w make ≡ Command.Unknown
unfolding with_choice names_choice
choice_unknown (Word.Number n) make h = refl
choice_unknown Word.Skip make h = absurd (false≢true (sym h))
choice_unknown Word.Last make h = absurd (false≢true (sym h))
choice_unknown Word.Other make h = refl

-- too many words
many_unknown : (n : ℕ) (a b c : Word) → 3 < n → command_of n a b c ≡ Command.Unknown
unfolding command_of
many_unknown n a b c h = is_ne (omega arith) _ _ ∙ is_ne (omega arith) _ _

pub line_unknown : (line : List Word) → ends_in_choice line ≡ false → line_command line ≡ Command.Unknown
unfolding line_command ends_in_choice command_of page_words export_words if_eq
line_unknown [] h = refl
line_unknown (a ∷ []) h = refl
line_unknown (a ∷ b ∷ []) h = number_unknown a _ (λ d. choice_unknown b _ h)
line_unknown (a ∷ b ∷ c ∷ []) h = number_unknown a _ (λ d. number_unknown b _ (λ k. choice_unknown c _ h))
line_unknown (a ∷ b ∷ c ∷ d ∷ line) h = many_unknown (length (a ∷ b ∷ c ∷ d ∷ line)) a b c (omega arith)

-- The theorem, of every book and every command line.
pub without_word : (f : List ℕ) (line : List Word) → WithoutWord f line
unfolding response
without_word f line h = ap (response f) (line_unknown line h)

-- "the word skip or last", and no other bytes
abbrev Spelled : List ℕ → Word → Type 0
Spelled w x = names_choice x ≡ true → (w ≡ 0x73 ∷ 0x6B ∷ 0x69 ∷ 0x70 ∷ []) ⊎ (w ≡ 0x6C ∷ 0x61 ∷ 0x73 ∷ 0x74 ∷ [])

pub choice_spelled : (w : List ℕ) → Spelled w (word_of w)
unfolding word_of names_choice
choice_spelled w =
    b_elim (Spelled w) (is_number w) _ _
    (λ _ e. absurd (false≢true e))
    (λ _.
    b_elim (Spelled w) (is_skip w) _ _
    (λ h _. inl (spelled_is w _ _ _ _ h))
    (λ _. b_elim (Spelled w) (is_last w) _ _ (λ h _. inr (spelled_is w _ _ _ _ h)) (λ _ e. absurd (false≢true e))))
