-- Rows, windows of them, and one row repeated.
use Rattle.std.specs.Prelude.{ℕ, ◌+◌, cond, List, map, length, take, drop, Ok, Err, Option, Result, nat_le}
use Rattle.std.specs.List.{range_with_len}
use Rattle.fault.specs.declared.Fault.{Fault}
use Rattle.fault.specs.declared.Fault.TheVariants.{Window}

-- a row is null, or the bytes of its text
abbrev pub Row : Type 0
Row = Option (List ℕ)

-- n rows, by their numbers
unfoldable pub rows_by : {X : Type 0} → (ℕ → X) → ℕ → List X
rows_by f n = map f (range_with_len 0 n)

-- n of the rows from the row numbered f on, as far as they go
abbrev pub window : {X : Type 0} → ℕ → ℕ → List X → List X
window f n rows = take n (drop f rows)

-- what taking a window answers: it is refused where it reaches past the rows
abbrev pub window_of : {X : Type 0} → ℕ → ℕ → List X → Result (List X) Fault
window_of f n rows = cond (nat_le (f + n) (length rows)) (Ok (window f n rows)) (Err Window)

-- what was answered, by what it means
abbrev pub meant : {X Y : Type 0} → (X → Y) → Result X Fault → Result Y Fault
meant f (Ok x) = Ok (f x)
meant f (Err e) = Err e
