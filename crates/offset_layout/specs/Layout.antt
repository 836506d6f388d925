-- The rows in the memory of an offset output, in the variable-size binary layout of Arrow's columnar format; all other memory is zero.
use Rattle.std.specs.Prelude.{◌≡◌, ℕ, ◌-◌, ◌*◌, ◌≤◌, min, Bool, true, cond, ◌&&◌, List, [], ◌∷◌, map, length, take, ℤ, pos, Some, None, nat_le}
use Rattle.std.specs.List.{range_with_len, flat_map}
use Rattle.source.specs.Rows.{Row}
use Rattle.text.specs.Steps.{formed}
use Rattle.columns.specs.Offsets.{Lists}
use Rattle.writing.specs.Bitmaps.{bitmap_of}
use Rattle.writing.specs.Padding.{padded}

-- a null has no bytes
abbrev pub bytes : Row → List ℕ
bytes None = []
bytes (Some t) = t

-- how many bytes the rows have
unfoldable pub used : List Row → ℕ
used rows = length (flat_map bytes rows)

-- values: the rows' bytes, then zeros
unfoldable pub values_of : ℕ → List Row → List ℕ
values_of size rows = padded size (flat_map bytes rows)

-- offsets: where each row begins, and where the last ends, then zeros
unfoldable pub offset : List Row → ℕ → ℕ
offset rows k = cond (nat_le k (length rows)) (used (take k rows)) 0

unfoldable pub offsets_of : ℕ → List Row → List ℤ
offsets_of size rows = map (λ k. pos (offset rows k)) (range_with_len 0 size)

-- the most rows for which there is memory
abbrev pub capacity : (offsets bitmap : ℕ) → ℕ
capacity offsets bitmap = min (offsets - 1) (8 * bitmap)

-- each row is null or well-formed
abbrev pub row_formed : Row → Bool
row_formed None = true
row_formed (Some t) = formed t

abbrev pub all_formed : List Row → Bool
all_formed [] = true
all_formed (row ∷ rows) = row_formed row && all_formed rows

-- memory as a column is read from it
abbrev pub column : List ℤ → List ℕ → List ℕ → Lists
column os vs bs = record { offsets = os; values = vs; validity = Some bs }

-- memory holds these rows, n of them with u bytes, and nothing else
pub record Holds (os : List ℤ) (vs bs : List ℕ) (rows : List Row) (n u : ℕ) : Type 0 where
  pub count : length rows ≡ n
  pub size : used rows ≡ u
  pub room : n ≤ capacity (length os) (length bs)
  pub fits : u ≤ length vs
  pub texts : all_formed rows ≡ true
  pub offsets_are : os ≡ offsets_of (length os) rows
  pub values_are : vs ≡ values_of (length vs) rows
  pub bitmap_is : bs ≡ bitmap_of (length bs) rows
