-- The view of a text, from the variable-size binary view layout of Arrow's columnar format.
use Rattle.std.specs.Prelude.{ℕ, ◌-◌, ◌/◌, ◌%◌, cond, List, [], ◌∷◌, ◌++◌, length, take, nat_le}
use Rattle.writing.specs.Padding.{zeros}

-- a 32-bit number, little-endian
abbrev pub word_bytes : ℕ → List ℕ
word_bytes n = n % 256 ∷ n / 256 % 256 ∷ n / 65536 % 256 ∷ n / 16777216 % 256 ∷ []

-- up to 12 bytes: the length, the text, and zeros
abbrev pub short_view : List ℕ → List ℕ
short_view t = word_bytes (length t) ++ (t ++ zeros (12 - length t))

-- above: the length, the first four bytes, the buffer's number and the offset in it
abbrev pub long_view : List ℕ → ℕ → ℕ → List ℕ
long_view t buffer offset = word_bytes (length t) ++ (take 4 t ++ (word_bytes buffer ++ word_bytes offset))

unfoldable pub view_of : List ℕ → ℕ → ℕ → List ℕ
view_of t buffer offset = cond (nat_le (length t) 12) (short_view t) (long_view t buffer offset)
