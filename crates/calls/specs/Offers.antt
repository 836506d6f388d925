-- What the code of a call answers, row by row.
use Rattle.std.specs.Prelude.{List, Some, Ok, Err, Result}
use Rattle.std.specs.Result.{result_map_both}
use Rattle.book.specs.Requests.{Offer}
use Rattle.fault.specs.declared.Fault.{Fault}
use Rattle.output.specs.Pieces.{piece_of}
use Rattle.output.specs.Rows.{Comes}
use Rattle.output.specs.declared.Piece.{Piece}
use Rattle.source.specs.Rows.{Row}

-- the row that was offered
abbrev pub offered : Result Piece Fault → Offer
offered r = result_map_both piece_of (λ e. e) r

-- it is a part of the rows that it is drawn from
abbrev pub Drawn : List Row → Result Piece Fault → Type 0
Drawn rows (Ok p) = Comes (Some rows) (piece_of p)
Drawn rows (Err f) = Unit {0}

-- where adding rows ended: with all of them, or with a fault
abbrev pub ended : {X T : Type 0} → Result T Fault → List X → Result (List X) Fault
ended (Ok x) rows = Ok rows
ended (Err f) rows = Err f
