-- When rows may be opened, and when each fault comes, in the layout's words.
use Rattle.std.specs.Prelude.{◌≡◌, ℕ, ◌+◌, ◌<◌, ◌≤◌, true, cond, List, length, pos, ◌≤ℤ◌, Some, None, slice_index_or, unsigned_abs}
use Rattle.std.specs.List.{between}
use Rattle.fault.specs.declared.Fault.{Fault}
use Rattle.fault.specs.declared.Fault.TheVariants.{ShortList, Offset, Malformed}
use Rattle.bitmap.specs.Validity.{Covers, valid}
use Rattle.source.specs.Verdicts.{Verdict}
use Rattle.text.specs.Table.{WellFormed}
use Rattle.columns.specs.Offsets.{Lists, offset, rows_in}

-- n rows take n + 1 offsets, no rows take none
abbrev pub Enough : ℕ → Lists → Type 0
Enough n m = (0 < n → n + 1 ≤ length m.offsets) × Covers m.validity n

-- offset 0 is not negative, offset i + 1 is not below offset i, and none is past the value bytes
abbrev pub OffsetsHold : Lists → ℕ → Type 0
OffsetsHold m i =
    (i ≡ 0 → (pos 0 ≤ℤ offset m 0) × (offset m 0 ≤ℤ pos (length m.values)))
    × (offset m i ≤ℤ offset m (i + 1))
    × (offset m (i + 1) ≤ℤ pos (length m.values))

-- row i runs from offset i to offset i + 1
abbrev pub run : Lists → ℕ → List ℕ
run m i = between (unsigned_abs (offset m i)) (unsigned_abs (offset m (i + 1))) m.values

abbrev pub RowHolds : Lists → ℕ → Type 0
RowHolds m i = OffsetsHold m i × (valid m.validity i ≡ true → WellFormed (run m i))

abbrev pub RowsHold : Lists → ℕ → Type 0
RowsHold m n = (i : ℕ) → i < n → RowHolds m i

-- n rows may be opened
abbrev pub Opens : ℕ → Lists → Type 0
Opens n m = Enough n m × RowsHold m n

-- the rows then read as they run
abbrev pub Reads : ℕ → Lists → Type 0
Reads n m = (i : ℕ) → i < n → slice_index_or (rows_in n m) i None ≡ cond (valid m.validity i) (Some (run m i)) None

-- the fault comes: where a list is too short, or at the lowest row that does not hold
abbrev pub Refused : ℕ → Lists → Fault → Type 0
Refused n m ShortList = Enough n m → ⊥
Refused n m (Offset i) = Enough n m × (i < n) × RowsHold m i × (OffsetsHold m i → ⊥)
Refused n m (Malformed i) = Enough n m × (i < n) × RowsHold m i × OffsetsHold m i × (valid m.validity i ≡ true) × (WellFormed (run m i) → ⊥)
-- no other fault comes
Refused n m e = ⊥

-- what a verdict says
abbrev pub Says : ℕ → Lists → Verdict → Type 0
Says n m None = Opens n m × Reads n m
Says n m (Some e) = Refused n m e
