-- A word of the command line, document 01 "What we read, write and show".
-- Assumes nothing.
use Rattle.std.specs.Prelude.{ℕ, Bool, true, false, List, length}
use Rattle.prelude.specs.Choice.{if_eq, if_b}
use Rattle.prelude.specs.Bytes.{byte}
use Rattle.digits.specs.Digits.{value, is_number, capped}
use Rattle.commands.specs.declared.types.Word.{Word}

-- just the four letters a, b, c, d
unfoldable pub spelled : List ℕ → ℕ → ℕ → ℕ → ℕ → Bool
spelled w a b c d =
    if_eq (length w) 4
    (if_eq (byte w 0) a (if_eq (byte w 1) b (if_eq (byte w 2) c (if_eq (byte w 3) d true false) false) false) false) false

-- "the word skip or last"
abbrev pub is_skip : List ℕ → Bool
is_skip w = spelled w 0x73 0x6B 0x69 0x70

abbrev pub is_last : List ℕ → Bool
is_last w = spelled w 0x6C 0x61 0x73 0x74

-- "in decimal": a number is only compared with days and counts, which are all below 65,536
unfoldable pub word_of : List ℕ → Word
word_of w =
    if_b (is_number w) (Word.Number (capped (value w))) (if_b (is_skip w) Word.Skip (if_b (is_last w) Word.Last Word.Other))
