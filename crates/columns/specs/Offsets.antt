-- Offset columns, from the variable-size binary layout of Arrow's columnar format:
-- row i of the value bytes runs from offset i to offset i + 1, and offsets never fall, not even at a null row.
use Rattle.std.specs.Prelude.{ℕ, ◌+◌, Bool, cond, ◌&&◌, ◌||◌, List, length, ℤ, pos, negsuc, is_some, Some, None, Option, ◌==◌, nat_le, nat_lt, slice_index_or}
use Rattle.std.specs.List.{between}
use Rattle.fault.specs.declared.Fault.TheVariants.{ShortList, Offset}
use Rattle.bitmap.specs.Validity.{valid, covers}
use Rattle.source.specs.Rows.{Row, rows_by}
use Rattle.source.specs.Verdicts.{Verdict, unless, then, first_fault, malformed}

-- what an offset column is read from
pub record Lists : Type 0 where
  pub offsets : List ℤ
  pub values : List ℕ
  pub validity : Option (List ℕ)

-- an offset as a place; a negative one is none
abbrev pub place_of : ℤ → Option ℕ
place_of (pos n) = Some n
place_of (negsuc n) = None

abbrev pub offset : Lists → ℕ → ℤ
offset m i = slice_index_or m.offsets i (pos 0)

abbrev pub place : Lists → ℕ → Option ℕ
place m i = place_of (offset m i)

-- what lies between two places; nothing where they are not places in order within the bytes
abbrev pub cut : List ℕ → Option ℕ → Option ℕ → Option (List ℕ)
cut bytes None end = None
cut bytes (Some start) None = None
cut bytes (Some start) (Some end) = cond (nat_le start end && nat_le end (length bytes)) (Some (between start end bytes)) None

-- the value bytes of row i
unfoldable pub part : Lists → ℕ → Option (List ℕ)
part m i = cut m.values (place m i) (place m (i + 1))

abbrev pub row_at : Lists → ℕ → Row
row_at m i = cond (valid m.validity i) (part m i) None

-- the first n rows
abbrev pub rows_in : ℕ → Lists → List Row
rows_in n m = rows_by (row_at m) n

-- n rows take n + 1 offsets, no rows take none
unfoldable pub enough : ℕ → Lists → Bool
enough n m = (n == 0 || nat_lt n (length m.offsets)) && covers m.validity n

-- A null row's offsets are looked at, its text is not. Where the rows before have no fault, offset i is a place in order,
-- so it is offset i + 1 that this refuses, and at row 0 offset 0 as well.
unfoldable pub row_fault : Lists → ℕ → Verdict
row_fault m i = then (unless (is_some (part m i)) (Offset i)) (malformed i (row_at m i))

-- what opening n rows answers
abbrev pub verdict : ℕ → Lists → Verdict
verdict n m = then (unless (enough n m) ShortList) (first_fault (row_fault m) n)
