-- The memory of a view output, by the rows in it.
use Rattle.std.specs.Prelude.{◌≡◌, ℕ, ◌+◌, cond, List, [], ◌∷◌, ◌++◌, length, Some, None, nat_le}
use Rattle.output.specs.declared.Counts.{Counts}
use Rattle.output.specs.Rows.{Rule, nulls_in}
use Rattle.source.specs.Rows.{Row}
use Rattle.views.specs.Layout.{Lists, rows_in}
use Rattle.view_memory.specs.Layout.{buffers_of, data_of, ends_of, views_of}
use Rattle.view_memory.specs.Rule.{capacity, end_capacity, view_rule}
use Rattle.view_memory.specs.Holding.{lists_of, Holds}
use Rattle.writing.specs.Bitmaps.{bitmap_of}
use Rattle.view_memory.specs.declared.memory.Memory.{Memory}

-- a column over the memory, with the rows and the ends counted
abbrev pub column_of : Memory → Counts → Lists
column_of m c = lists_of m.views.now m.validity.now m.ends.now m.bytes.now c.buffers

unfoldable pub rows_of : Memory → Counts → List Row
rows_of m c = rows_in c.rows (column_of m c)

abbrev pub Has : Memory → List Row → Type 0
Has m rows = Holds m.views.now m.validity.now m.ends.now m.bytes.now rows

-- how many texts are longer than 12 bytes
abbrev pub longs_in : List Row → ℕ
longs_in [] = 0
longs_in (None ∷ rows) = longs_in rows
longs_in (Some t ∷ rows) = longs_in rows + cond (nat_le (length t) 12) 0 1

-- the counts of rows
abbrev pub counts_of : List Row → Counts
counts_of rows =
    record {
      rows = length rows;
      nulls = nulls_in rows;
      value_bytes = length (buffers_of rows).bytes;
      buffers = length (buffers_of rows).ends;
      long_views = longs_in rows;
    }

abbrev pub Counted : Counts → List Row → Type 0
Counted c rows =
    (c.rows ≡ length rows)
    × (c.nulls ≡ nulls_in rows)
    × (c.value_bytes ≡ length (buffers_of rows).bytes)
    × (c.buffers ≡ length (buffers_of rows).ends)
    × (c.long_views ≡ longs_in rows)

-- the rule, by the sizes of the memory
abbrev pub rule_of : Memory → Rule
rule_of m = view_rule (capacity (length m.views.now) (length m.validity.now)) (end_capacity (length m.ends.now)) (length m.bytes.now)

abbrev pub SameSizes : Memory → Memory → Type 0
SameSizes m k =
    (length k.views.now ≡ length m.views.now)
    × (length k.validity.now ≡ length m.validity.now)
    × (length k.ends.now ≡ length m.ends.now)
    × (length k.bytes.now ≡ length m.bytes.now)

-- the sizes of memory
abbrev pub sizes_of : Memory → List ℕ
sizes_of m = length m.views.now ∷ length m.validity.now ∷ length m.ends.now ∷ length m.bytes.now ∷ []

-- all memory, as one list
abbrev pub laid : (views bitmap ends bytes : List ℕ) → List ℕ
laid views bitmap ends bytes = views ++ (bitmap ++ (ends ++ bytes))

abbrev pub memory_of : Memory → List ℕ
memory_of m = laid m.views.now m.validity.now m.ends.now m.bytes.now

-- what memory of these sizes holds with these rows in it: what is beyond the rows is zero
abbrev pub image : List ℕ → List Row → List ℕ
image [] rows = []
image (v ∷ []) rows = []
image (v ∷ b ∷ []) rows = []
image (v ∷ b ∷ e ∷ []) rows = []
image (v ∷ b ∷ e ∷ d ∷ rest) rows = laid (views_of v rows) (bitmap_of b rows) (ends_of e rows) (data_of d rows)
