-- The rows held, the first of them kept and the others pending.
use Rattle.std.specs.Prelude.{ℕ, List, map, take, drop}
use Rattle.output.specs.Rows.{Piece}
use Rattle.source.specs.Rows.{Row}

-- a row held, which is no longer known to come from anywhere
abbrev pub whole : Row → Piece
whole row = record { row = row; from = 0; place = 0 }

-- n of the rows are kept
abbrev pub kept_pieces : ℕ → List Row → List Piece
kept_pieces n rows = map whole (take n rows)

abbrev pub pending_pieces : ℕ → List Row → List Piece
pending_pieces n rows = map whole (drop n rows)
