-- Memory of a given size: what was written, then zeros.
use Rattle.std.specs.Prelude.{ℕ, ◌-◌, List, ◌++◌, length, replicate}

abbrev pub zeros : ℕ → List ℕ
zeros n = replicate n 0

unfoldable pub padded : ℕ → List ℕ → List ℕ
padded size written = written ++ zeros (size - length written)
