-- What a trim removes from a row, what remains of it, and where that begins.
use Rattle.std.specs.Prelude.{ℕ, Bool, cond, List, [], length}
use Rattle.std.proofs.Math.Utf8.{encodes}
use Rattle.std.specs.Char.{char_set_contains}
use Rattle.std.specs.Str.{chars}
use Rattle.trim.specs.Ends.{longest_head, past_head, longest_tail, before_tail}

-- what goes from the start of the characters cs, and what stays: a side that is not trimmed loses nothing
abbrev pub removed_head : Bool → (ℕ → Bool) → List ℕ → List ℕ
removed_head left p cs = cond left (longest_head p cs) []

abbrev pub without_head : Bool → (ℕ → Bool) → List ℕ → List ℕ
without_head left p cs = cond left (past_head p cs) cs

-- what goes from the end, and what stays
abbrev pub removed_tail : Bool → (ℕ → Bool) → List ℕ → List ℕ
removed_tail right p cs = cond right (longest_tail p cs) []

abbrev pub without_tail : Bool → (ℕ → Bool) → List ℕ → List ℕ
without_tail right p cs = cond right (before_tail p cs) cs

-- what remains of a row, first without its head and then without its tail, and the bytes that stand before it
unfoldable pub trimmed : Bool → Bool → List ℕ → List ℕ → List ℕ × ℕ
trimmed left right set row = (
  encodes (without_tail right (char_set_contains (chars set)) (without_head left (char_set_contains (chars set)) (chars row))),
  length (encodes (removed_head left (char_set_contains (chars set)) (chars row))),
)
