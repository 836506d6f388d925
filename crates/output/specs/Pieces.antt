-- Pieces as the code hands them on.
use Rattle.std.specs.Option.{option_map}
use Rattle.output.specs.Rows.{Piece as Held}
use Rattle.output.specs.declared.Piece.{Piece}

abbrev pub piece_of : Piece → Held
piece_of p = record { row = option_map (λ x. x.now) p.text; from = p.from; place = p.place }
