-- Memory with rows in it.
use Rattle.std.specs.Prelude.{List}
use Rattle.columns.specs.declared.width.Width.{Ghosts}
use Rattle.source.specs.Rows.{Row}
use Rattle.offset_output.specs.Memories.{rows_of}
use Rattle.offset_output.specs.declared.filled.Filled.{Filled}

-- the rows held
abbrev pub held_rows : {W : Type 0} {w : Ghosts W} → Filled W w → List Row
held_rows {w = w} s = rows_of w.number s.memory s.held.rows
