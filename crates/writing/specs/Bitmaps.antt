-- The validity bitmap of rows: a bit for each, lowest first, 1 where the row is not null.
use Rattle.std.specs.Prelude.{ℕ, ◌+◌, ◌*◌, ◌/◌, ◌%◌, ◌^◌, List, map, Some, None, bit_or, slice_index, slice_index_or, slice_set}
use Rattle.std.specs.List.{range_with_len}
use Rattle.source.specs.Rows.{Row}

abbrev pub bit_of : Row → ℕ
bit_of None = 0
bit_of (Some t) = 1

abbrev pub packed : (ℕ → ℕ) → ℕ
packed f = f 0 + 2 * f 1 + 4 * f 2 + 8 * f 3 + 16 * f 4 + 32 * f 5 + 64 * f 6 + 128 * f 7

unfoldable pub byte : List Row → ℕ → ℕ
byte rows b = packed (λ j. bit_of (slice_index_or rows (8 * b + j) None))

-- a bitmap of a given size
unfoldable pub bitmap_of : ℕ → List Row → List ℕ
bitmap_of size rows = map (byte rows) (range_with_len 0 size)

-- a bitmap with the bit of row i set
abbrev pub marked : List ℕ → ℕ → List ℕ
marked bytes i = slice_set bytes (i / 8) (bit_or (slice_index bytes (i / 8)) (2 ^ (i % 8)))
