-- When rows may be opened, and when each fault comes, in the layout's words.
use Rattle.std.specs.Prelude.{◌≡◌, ℕ, ◌+◌, ◌-◌, ◌*◌, ◌<◌, ◌≤◌, true, List, length, Some, None, slice_index}
use Rattle.fault.specs.declared.Fault.{Fault}
use Rattle.fault.specs.declared.Fault.TheVariants.{ShortList, BufferEnd, View, Malformed}
use Rattle.bitmap.specs.Validity.{Covers, valid}
use Rattle.source.specs.Verdicts.{Verdict}
use Rattle.text.specs.Table.{WellFormed}
use Rattle.views.specs.Layout.{Data, Lists, buffer, buffer_end, buffer_start, offset, part, place, size, text, view}

abbrev pub Enough : ℕ → Lists → Type 0
Enough n m = (16 * n ≤ length m.views) × Covers m.validity n

-- no buffer ends below the one before, nor past the bytes
abbrev pub EndsHold : Data → Type 0
EndsHold d =
    (b : ℕ) → b < length d.ends → (buffer_start d.ends b ≤ buffer_end d.ends b) × (buffer_end d.ends b ≤ length d.bytes)

-- zeros follow a short text
abbrev pub ShortHolds : List ℕ → Type 0
ShortHolds v = (k : ℕ) → size v ≤ k → k < 12 → slice_index v (4 + k) ≡ 0

-- a long text lies within a buffer that there is, ends at a signed 32-bit number, and begins as the view says
abbrev pub LongHolds : Data → List ℕ → Type 0
LongHolds d v =
    (buffer v < length d.ends)
    × (offset v + size v ≤ buffer_end d.ends (buffer v) - buffer_start d.ends (buffer v))
    × (offset v + size v ≤ 2147483647)
    × (part 4 4 v ≡ part (place d v) 4 d.bytes)

abbrev pub ViewHolds : Data → List ℕ → Type 0
ViewHolds d v = (size v ≤ 2147483647) × (size v ≤ 12 → ShortHolds v) × (12 < size v → LongHolds d v)

-- a null row holds whatever its view is
abbrev pub RowHolds : Lists → ℕ → Type 0
RowHolds m i = valid m.validity i ≡ true → ViewHolds m.buffers (view m i) × WellFormed (text m.buffers (view m i))

abbrev pub RowsHold : Lists → ℕ → Type 0
RowsHold m n = (i : ℕ) → i < n → RowHolds m i

-- n rows may be opened
abbrev pub Opens : ℕ → Lists → Type 0
Opens n m = Enough n m × EndsHold m.buffers × RowsHold m n

-- the lists and the ends hold, and so does each row below row i, which is not null
abbrev pub Reaches : ℕ → Lists → ℕ → Type 0
Reaches n m i = Enough n m × EndsHold m.buffers × (i < n) × RowsHold m i × (valid m.validity i ≡ true)

-- the fault comes: where a list is too short, an end is out of place, or at the lowest row that does not hold
abbrev pub Refused : ℕ → Lists → Fault → Type 0
Refused n m ShortList = Enough n m → ⊥
Refused n m BufferEnd = Enough n m × (EndsHold m.buffers → ⊥)
Refused n m (View i) = Reaches n m i × (ViewHolds m.buffers (view m i) → ⊥)
Refused n m (Malformed i) = Reaches n m i × ViewHolds m.buffers (view m i) × (WellFormed (text m.buffers (view m i)) → ⊥)
-- no other fault comes
Refused n m e = ⊥

-- what a verdict says
abbrev pub Says : ℕ → Lists → Verdict → Type 0
Says n m None = Opens n m
Says n m (Some e) = Refused n m e
