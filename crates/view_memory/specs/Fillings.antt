-- Memory with rows in it.
use Rattle.std.specs.Prelude.{List}
use Rattle.source.specs.Rows.{Row}
use Rattle.view_memory.specs.Memories.{rows_of}
use Rattle.view_memory.specs.declared.filled.Filled.{Filled}

-- the rows held
abbrev pub held_rows : Filled → List Row
held_rows s = rows_of s.memory s.held
