-- The rows that an output holds, each with where it comes from, and the rule by which it takes them.
use Rattle.std.specs.Prelude.{◌≡◌, ℕ, ◌+◌, List, [], ◌∷◌, ◌++◌, map, length, take, drop, Some, None, Ok, Err, Option, Result, slice_index_or}
use Rattle.fault.specs.Faults.{layer_of}
use Rattle.fault.specs.declared.Fault.{Fault}
use Rattle.fault.specs.declared.Layer.TheVariants.{Output}
use Rattle.source.specs.Rows.{Row}
use Rattle.source.specs.Verdicts.{Verdict}

-- a row with where it comes from: the number of the base's row, and the place in it
pub record Piece : Type 0 where
  pub row : Row
  pub from : ℕ
  pub place : ℕ

abbrev pub row_of : Piece → Row
row_of p = p.row

-- what an output that copies makes of a piece: it forgets where the row comes from
abbrev pub copied : Piece → Piece
copied p = record { row = p.row; from = 0; place = 0 }

-- the verdict on a coming row, after the rows held; over any kind of row
abbrev pub RuleOver : Type 0 → Type 0
RuleOver X = List X → X → Verdict

abbrev pub Rule : Type 0
Rule = RuleOver Row

-- accepted, or refused for a fault of outputs
abbrev pub OwnFault : Verdict → Type 0
OwnFault None = Unit {0}
OwnFault (Some f) = layer_of f ≡ Output

-- the same rule of pieces, which looks at their rows alone
abbrev pub on_rows : Rule → RuleOver Piece
on_rows rule ps p = rule (map row_of ps) (row_of p)

-- what is pending after an add: one more where it was accepted
abbrev pub grown : {X T : Type 0} → Result T Fault → List X → X → List X
grown (Ok x) rows row = rows ++ row ∷ []
grown (Err f) rows row = rows

-- null, or a part of the base's row that is named
abbrev pub Part : List Row → ℕ → ℕ → Row → Type 0
Part rows from place None = Unit {0}
Part rows from place (Some t) = (s : List ℕ) × ((slice_index_or rows from None ≡ Some s) × (t ≡ take (length t) (drop place s)))

-- a piece comes from the base; where there is none, any does
abbrev pub Comes : Option (List Row) → Piece → Type 0
Comes None p = Unit {0}
Comes (Some rows) p = Part rows p.from p.place p.row

-- what an output was made with, and what never changes: the rule by which it takes rows, the base that they come from where
-- there is one, what it makes of a piece, and the sizes of its memory
pub record Terms : Type 0 where
  pub rule : Rule
  pub base : Option (List Row)
  pub taken : Piece → Piece
  pub sizes : List ℕ

-- how many rows are null
abbrev pub nulls_in : List Row → ℕ
nulls_in [] = 0
nulls_in (None ∷ rows) = nulls_in rows + 1
nulls_in (Some t ∷ rows) = nulls_in rows
