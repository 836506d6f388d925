-- Which windows cover a call.
use Rattle.std.specs.Prelude.{ℕ, Bool, true, false, ◌&&◌, List, [], ◌∷◌, ◌==◌}
use Rattle.book.specs.Division.{total}

abbrev pub some : List ℕ → Bool
some [] = false
some (n ∷ ns) = true

-- there is one window or more, the call can be cut, and they have its rows together
abbrev pub covers : Bool → ℕ → List ℕ → Bool
covers cuttable size windows = some windows && (cuttable && total windows == size)
