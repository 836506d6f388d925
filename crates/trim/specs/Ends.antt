-- The longest head and the longest tail of a text that are made of characters of a set.
use Rattle.std.specs.Prelude.{ℕ, ◌-◌, Bool, List, length, take, drop}
use Rattle.std.proofs.Math.Utf8.{encodes}
use Rattle.std.specs.Char.{char_set_contains}
use Rattle.std.specs.List.{prefix_len, suffix_len}
use Rattle.std.specs.Str.{chars}

-- the longest head of the characters cs that all pass p, and what follows it
abbrev pub longest_head : (ℕ → Bool) → List ℕ → List ℕ
longest_head p cs = take (prefix_len p cs) cs

abbrev pub past_head : (ℕ → Bool) → List ℕ → List ℕ
past_head p cs = drop (prefix_len p cs) cs

-- the longest tail of those that all pass p, and what precedes it
abbrev pub longest_tail : (ℕ → Bool) → List ℕ → List ℕ
longest_tail p cs = drop (length cs - suffix_len p cs) cs

abbrev pub before_tail : (ℕ → Bool) → List ℕ → List ℕ
before_tail p cs = take (length cs - suffix_len p cs) cs

-- the bytes that the longest head and the longest tail of a text take whose characters are in the set
unfoldable pub head_size : List ℕ → List ℕ → ℕ
head_size set text = length (encodes (longest_head (char_set_contains (chars set)) (chars text)))

unfoldable pub tail_size : List ℕ → List ℕ → ℕ
tail_size set text = length (encodes (longest_tail (char_set_contains (chars set)) (chars text)))
