-- Counts of the rows that are kept.
use Rattle.std.specs.Prelude.{◌≡◌, ◌≤◌, List, length, take}
use Rattle.output.specs.declared.Counts.{Counts}
use Rattle.source.specs.Rows.{Row}

-- the first of the rows held are kept, and so counted
pub record Keeps (count : List Row → Counts) (rows : List Row) (kept : Counts) : Type 0 where
  pub first : kept.rows ≤ length rows
  pub counted : kept ≡ count (take kept.rows rows)
