-- Lent memory, and the rows in it.
use Rattle.std.specs.Prelude.{◌≡◌, ℕ, ◌*◌, ◌+◌, List, [], ◌∷◌, ◌++◌, map, length, ℤ, pos, negsuc}
use Rattle.columns.specs.Offsets.{Lists, rows_in}
use Rattle.offset_layout.specs.Layout.{capacity, column, used, offsets_of, values_of, Holds}
use Rattle.offset_layout.specs.Rules.{offset_rule}
use Rattle.output.specs.Rows.{Rule, nulls_in}
use Rattle.output.specs.declared.Counts.{Counts}
use Rattle.source.specs.Rows.{Row}
use Rattle.writing.specs.Bitmaps.{bitmap_of}
use Rattle.offset_output.specs.declared.memory.Memory.{Memory}

-- the memory, as a column is read from it
abbrev pub lists_of : {W : Type 0} → (W → ℤ) → Memory W → Lists
lists_of number m = column (map number m.offsets.now) m.values.now m.validity.now

-- the first n rows in it
abbrev pub rows_of : {W : Type 0} → (W → ℤ) → Memory W → ℕ → List Row
rows_of number m n = rows_in n (lists_of number m)

-- what rows take
abbrev pub counted : List Row → Counts
counted rows = record { rows = length rows; nulls = nulls_in rows; value_bytes = used rows; buffers = 0; long_views = 0 }

-- it holds the rows that are read from it, and nothing else; they take so much
pub record Has {W : Type 0} (number : W → ℤ) (m : Memory W) (c : Counts) : Type 0 where
  pub holds : Holds (map number m.offsets.now) m.values.now m.validity.now (rows_of number m c.rows) c.rows c.value_bytes
  pub counts : c ≡ counted (rows_of number m c.rows)

abbrev pub SameSizes : {W : Type 0} → Memory W → Memory W → Type 0
SameSizes m k =
    (length k.offsets.now ≡ length m.offsets.now) × (length k.values.now ≡ length m.values.now) × (length k.validity.now ≡ length m.validity.now)

-- the most rows for which there is memory
abbrev pub capacity_of : {W : Type 0} → Memory W → ℕ
capacity_of m = capacity (length m.offsets.now) (length m.validity.now)

-- the rule of an output over this memory, where offsets go up to `most`
abbrev pub rule_of : {W : Type 0} → ℕ → Memory W → Rule
rule_of most m = offset_rule (capacity_of m) most (length m.values.now)

-- the sizes of memory
abbrev pub sizes_of : {W : Type 0} → Memory W → List ℕ
sizes_of m = length m.offsets.now ∷ length m.values.now ∷ length m.validity.now ∷ []

-- an offset as a number of its own: from 0 up the even ones
abbrev pub code : ℤ → ℕ
code (pos n) = 2 * n
code (negsuc n) = 2 * n + 1

-- lists of memory as one
abbrev pub laid : List ℤ → List ℕ → List ℕ → List ℕ
laid os vs bs = map code os ++ (vs ++ bs)

-- all memory
abbrev pub memory_of : {W : Type 0} → (W → ℤ) → Memory W → List ℕ
memory_of number m = laid (map number m.offsets.now) m.values.now m.validity.now

-- what memory of these sizes holds with these rows in it: what is beyond the rows is zero
abbrev pub image : List ℕ → List Row → List ℕ
image [] rows = []
image (o ∷ []) rows = []
image (o ∷ v ∷ []) rows = []
image (o ∷ v ∷ b ∷ rest) rows = laid (offsets_of o rows) (values_of v rows) (bitmap_of b rows)
