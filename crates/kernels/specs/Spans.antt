-- Windows by their numbers: the rows from `first` on, so many of them.
use Rattle.std.specs.Prelude.{ℕ, ◌+◌, ◌^◌, min, Bool, List, length, None, Option, nat_le, nat_lt, slice_index_or}

-- they are all there
abbrev pub inside : {X : Type 0} → (first rows : ℕ) → List X → Bool
inside first rows listed = nat_le (first + rows) (length listed)

-- one of them; nothing past the end
abbrev pub row_in : {X : Type 0} → (first : ℕ) → List (Option X) → ℕ → Option X
row_in first listed i = slice_index_or listed (first + i) None

-- the row behind the last has a number too
abbrev pub ends : (first rows : ℕ) → Bool
ends first rows = nat_lt (first + rows) (2 ^ 64)

-- where the part from row `at` on begins; row numbers end at 2 ^ 64 - 1
abbrev pub shift : (first at : ℕ) → ℕ
shift first at = min (first + at) 18446744073709551615
